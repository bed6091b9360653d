-- Rules in whose alternatives an argument may be an alternative itself, to any depth: the shape of their tokens, and
-- the alternatives that stand as arguments.
use Rattle.std.specs.Prelude.{ℕ, zero, suc, Bool, true, false, ◌&&◌, Result, Ok, Err, List, [], ◌∷◌, codes, drop, length, map, if◌then◌else◌}
use Rattle.job_texts.specs.LineTokens.{Token, Word, Quoted, Equals, OpenBracket, CloseBracket, Comma, OpenSquare, CloseSquare, Bar, Dots, PlacedToken, Offence, line_tokens}
use Rattle.job_texts.specs.TermText.{is_word}

-- ---- the shape: `rule NAME = ALT | ALT ..`

abbrev mutual
  -- alternatives with a `|` between two, the last up to the end of the line
  pub are_alternatives : List Token → Bool
  are_alternatives (Word sign ∷ OpenBracket ∷ tokens) = are_arguments 0 tokens
  are_alternatives tokens = false

  -- an argument of an alternative that lies in so many others, and what follows it. The argument is an alternative
  -- itself, or one that a plain rule has
  pub are_arguments : ℕ → List Token → Bool
  are_arguments depth (Word sign ∷ OpenBracket ∷ tokens) = are_arguments (suc depth) tokens
  are_arguments depth (Word rule ∷ tokens) = behind_argument depth tokens
  are_arguments depth (Quoted letters ∷ tokens) = behind_argument depth tokens
  are_arguments depth (OpenSquare ∷ tokens) = in_square depth tokens
  are_arguments depth tokens = false

  -- a class in square brackets
  pub in_square : ℕ → List Token → Bool
  in_square depth (Word class ∷ tokens) = behind_class depth tokens
  in_square depth tokens = false

  -- the closing square bracket, or the low bound of a run and its dots
  pub behind_class : ℕ → List Token → Bool
  behind_class depth (CloseSquare ∷ tokens) = behind_argument depth tokens
  behind_class depth (Word low ∷ Dots ∷ tokens) = behind_low depth tokens
  behind_class depth tokens = false

  -- a high bound or none, and the closing square bracket
  pub behind_low : ℕ → List Token → Bool
  behind_low depth (CloseSquare ∷ tokens) = behind_argument depth tokens
  behind_low depth (Word high ∷ CloseSquare ∷ tokens) = behind_argument depth tokens
  behind_low depth tokens = false

  -- a comma and a further argument, or the closing bracket
  pub behind_argument : ℕ → List Token → Bool
  behind_argument depth (Comma ∷ tokens) = are_arguments depth tokens
  behind_argument zero (CloseBracket ∷ tokens) = behind_alternative tokens
  behind_argument (suc depth) (CloseBracket ∷ tokens) = behind_argument depth tokens
  behind_argument depth tokens = false

  -- behind an alternative of the rule itself: a size or none, and then the end or a further alternative
  pub behind_alternative : List Token → Bool
  behind_alternative [] = true
  behind_alternative (Bar ∷ tokens) = are_alternatives tokens
  behind_alternative (Word word ∷ tokens) = is_word (codes "with") word && behind_with tokens
  behind_alternative tokens = false

  -- `size` behind `with`
  pub behind_with : List Token → Bool
  behind_with (Word word ∷ tokens) = is_word (codes "size") word && behind_clause tokens
  behind_with tokens = false

  -- the low bound of a size and its dots
  pub behind_clause : List Token → Bool
  behind_clause (Word low ∷ Dots ∷ tokens) = behind_size tokens
  behind_clause tokens = false

  -- a high bound or none, and then the end or a further alternative
  pub behind_size : List Token → Bool
  behind_size [] = true
  behind_size (Bar ∷ tokens) = are_alternatives tokens
  behind_size (Word high ∷ []) = true
  behind_size (Word high ∷ Bar ∷ tokens) = are_alternatives tokens
  behind_size tokens = false

-- the tokens are a rule of the nested shape
abbrev pub is_nested_rule : List Token → Bool
is_nested_rule (Word rule ∷ Word name ∷ Equals ∷ tokens) = is_word (codes "rule") rule && are_alternatives tokens
is_nested_rule tokens = false

-- ---- the alternatives that stand as arguments

-- an alternative that stands as an argument: from the first byte of its sign to behind its closing bracket; and in how
-- many alternatives it lies
pub record Nested : Type 0 where
  pub depth : ℕ
  pub from : ℕ
  pub to : ℕ

-- where alternatives end that are open before a token that ends here, by the ends of those that are open behind it
abbrev pub ends_at : Token → ℕ → List ℕ → List ℕ
ends_at OpenBracket to ends = drop 1 ends
ends_at CloseBracket to ends = to ∷ ends
ends_at token to ends = ends

-- where the alternatives end that are open before these tokens, the innermost first
abbrev pub ends_of : List PlacedToken → List ℕ
ends_of [] = []
ends_of (placed ∷ tokens) = ends_at placed.token placed.to (ends_of tokens)

-- an alternative before others, where it lies in another one at least: it begins here, and these are the ends from its
-- own outwards
abbrev pub with_nested : ℕ → List ℕ → List Nested → List Nested
with_nested from (to ∷ outer ∷ further) others =
    record { depth = suc (length further); from = from; to = to } ∷ others
with_nested from ends others = others

-- the alternatives that stand as arguments from a token on, by the ends of those that are open behind it, and by those
-- that open behind it; the token before begins at `from`
abbrev pub nested_at : Token → ℕ → List ℕ → List Nested → List Nested
nested_at OpenBracket from ends others = with_nested from ends others
nested_at token from ends others = others

-- the alternatives that stand as arguments and whose brackets open in these tokens, in the order in which they begin;
-- the token before these begins at `from`
abbrev pub nested_behind : ℕ → List PlacedToken → List Nested
nested_behind from [] = []
nested_behind from (placed ∷ tokens) =
    nested_at placed.token from (ends_of tokens) (nested_behind placed.from tokens)

-- the same of a header line; none where its tokens are no rule of the nested shape
abbrev pub nested_in : List ℕ → List Nested
nested_in line = of_tokens (line_tokens line)
  where
    of_tokens : Result (List PlacedToken) Offence → List Nested
    of_tokens (Err offence) = []
    of_tokens (Ok tokens) =
        if is_nested_rule (map (λ (placed : PlacedToken). placed.token) tokens) then nested_behind 0 tokens else []
