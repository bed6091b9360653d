-- The tokens of a rule of the nested shape: where a `|` stands, no alternative is open.
use Rattle.std.proofs.Common.{◌≡◌, ℕ, zero, suc, ◌-◌, ◌⊎◌, inl, inr, true, codes, List, [], ◌∷◌, length, refl, ap, arith}
use Rattle.std.proofs.lemmas.Bool.{and_parts}
use Rattle.std.proofs.lemmas.List.{length-drop}
use Rattle.job_texts.specs.LineTokens.{Token, Word, Quoted, Equals, OpenBracket, CloseBracket, Comma, OpenSquare, CloseSquare, Bar, Dots, PlacedToken}
use Rattle.job_texts.specs.TermText.{is_word}
use Rattle.nested_texts.specs.NestedRules.{are_alternatives, are_arguments, in_square, behind_class, behind_low, behind_argument, behind_alternative, behind_with, behind_clause, behind_size, is_nested_rule, ends_at, ends_of}
use Rattle.nested_jobs.proofs.Sides.{bar_of}
use Rattle.nested_jobs.proofs.Chains.{said}

-- how many alternatives are open before a token, by how many are behind it
abbrev opened_by : Token → ℕ → ℕ
opened_by OpenBracket behind = behind - 1
opened_by CloseBracket behind = suc behind
opened_by token behind = behind

abbrev pub open_before : List Token → ℕ
open_before [] = 0
open_before (token ∷ tokens) = opened_by token (open_before tokens)

-- a token is no `|`, or nothing is open behind it
abbrev pub AreLevel : List Token → Type 0
AreLevel [] = Unit {0}
AreLevel (token ∷ tokens) = ((bar_of token ≡ 0) ⊎ (open_before tokens ≡ 0)) × AreLevel tokens

abbrev Opens : ℕ → List Token → Type 0
Opens count tokens = (open_before tokens ≡ count) × AreLevel tokens

mutual
  alternatives_open : (tokens : List Token) → are_alternatives tokens ≡ true → Opens 0 tokens
  alternatives_open (Word sign ∷ OpenBracket ∷ tokens) h =
      let rest = arguments_open 0 tokens h in
      (omega (arith, rest.0), (inl refl, (inl refl, rest.1)))
  alternatives_open tokens h = absurd cc

  arguments_open : (depth : ℕ) (tokens : List Token) → are_arguments depth tokens ≡ true → Opens (suc depth) tokens
  arguments_open depth (Word sign ∷ OpenBracket ∷ tokens) h =
      let rest = arguments_open (suc depth) tokens h in
      (omega (arith, rest.0), (inl refl, (inl refl, rest.1)))
  arguments_open depth (Word rule ∷ tokens) h = let rest = argument_open depth tokens h in (rest.0, (inl refl, rest.1))
  arguments_open depth (Quoted letters ∷ tokens) h =
      let rest = argument_open depth tokens h in (rest.0, (inl refl, rest.1))
  arguments_open depth (OpenSquare ∷ tokens) h = let rest = square_open depth tokens h in (rest.0, (inl refl, rest.1))
  arguments_open depth tokens h = absurd cc

  square_open : (depth : ℕ) (tokens : List Token) → in_square depth tokens ≡ true → Opens (suc depth) tokens
  square_open depth (Word class ∷ tokens) h = let rest = class_open depth tokens h in (rest.0, (inl refl, rest.1))
  square_open depth tokens h = absurd cc

  class_open : (depth : ℕ) (tokens : List Token) → behind_class depth tokens ≡ true → Opens (suc depth) tokens
  class_open depth (CloseSquare ∷ tokens) h = let rest = argument_open depth tokens h in (rest.0, (inl refl, rest.1))
  class_open depth (Word low ∷ Dots ∷ tokens) h =
      let rest = low_open depth tokens h in (rest.0, (inl refl, (inl refl, rest.1)))
  class_open depth tokens h = absurd cc

  low_open : (depth : ℕ) (tokens : List Token) → behind_low depth tokens ≡ true → Opens (suc depth) tokens
  low_open depth (CloseSquare ∷ tokens) h = let rest = argument_open depth tokens h in (rest.0, (inl refl, rest.1))
  low_open depth (Word high ∷ CloseSquare ∷ tokens) h =
      let rest = argument_open depth tokens h in (rest.0, (inl refl, (inl refl, rest.1)))
  low_open depth tokens h = absurd cc

  argument_open : (depth : ℕ) (tokens : List Token) → behind_argument depth tokens ≡ true → Opens (suc depth) tokens
  argument_open depth (Comma ∷ tokens) h = let rest = arguments_open depth tokens h in (rest.0, (inl refl, rest.1))
  argument_open zero (CloseBracket ∷ tokens) h =
      let rest = alternative_open tokens h in (ap suc rest.0, (inl refl, rest.1))
  argument_open (suc depth) (CloseBracket ∷ tokens) h =
      let rest = argument_open depth tokens h in (ap suc rest.0, (inl refl, rest.1))
  argument_open depth tokens h = absurd cc

  alternative_open : (tokens : List Token) → behind_alternative tokens ≡ true → Opens 0 tokens
  alternative_open [] h = (refl, tt)
  alternative_open (Bar ∷ tokens) h = let rest = alternatives_open tokens h in (rest.0, (inr rest.0, rest.1))
  alternative_open (Word word ∷ tokens) h =
      let rest = with_open tokens (and_parts (is_word (codes "with") word) (behind_with tokens) h).1 in
      (rest.0, (inl refl, rest.1))
  alternative_open tokens h = absurd cc

  with_open : (tokens : List Token) → behind_with tokens ≡ true → Opens 0 tokens
  with_open (Word word ∷ tokens) h =
      let rest = clause_open tokens (and_parts (is_word (codes "size") word) (behind_clause tokens) h).1 in
      (rest.0, (inl refl, rest.1))
  with_open tokens h = absurd cc

  clause_open : (tokens : List Token) → behind_clause tokens ≡ true → Opens 0 tokens
  clause_open (Word low ∷ Dots ∷ tokens) h = let rest = size_open tokens h in (rest.0, (inl refl, (inl refl, rest.1)))
  clause_open tokens h = absurd cc

  size_open : (tokens : List Token) → behind_size tokens ≡ true → Opens 0 tokens
  size_open [] h = (refl, tt)
  size_open (Bar ∷ tokens) h = let rest = alternatives_open tokens h in (rest.0, (inr rest.0, rest.1))
  size_open (Word high ∷ []) h = (refl, (inl refl, tt))
  size_open (Word high ∷ Bar ∷ tokens) h =
      let rest = alternatives_open tokens h in (rest.0, (inl refl, (inr rest.0, rest.1)))
  size_open tokens h = absurd cc

pub rule_level : (tokens : List Token) → is_nested_rule tokens ≡ true → AreLevel tokens
rule_level (Word rule ∷ Word name ∷ Equals ∷ tokens) h = (
  inl refl,
  (
    inl refl,
    (inl refl, (alternatives_open tokens (and_parts (is_word (codes "rule") rule) (are_alternatives tokens) h).1).1),
  ),
)
rule_level tokens h = absurd cc

-- as many ends as alternatives are open
at_token : (token : Token) (to : ℕ) (ends : List ℕ) (count : ℕ) → length ends ≡ count
    → length (ends_at token to ends) ≡ opened_by token count
at_token OpenBracket to ends count e = omega (arith, length-drop 1 ends, e)
at_token CloseBracket to ends count e = ap suc e
at_token token to ends count e = e

pub ends_open : (tokens : List PlacedToken) → length (ends_of tokens) ≡ open_before (said tokens)
ends_open [] = refl
ends_open (token ∷ tokens) =
    at_token token.token token.to (ends_of tokens) (open_before (said tokens)) (ends_open tokens)
