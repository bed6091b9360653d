-- The text of a wide term: the grammar of its tokens, the tree that they spell, and the term of that tree or what is
-- wrong with it.
use Rattle.std.specs.Prelude.{ℕ, zero, suc, ◌+◌, ◌*◌, pos, Bool, ◌||◌, not, nat_le, Option, Some, None, is_some, unwrap_or, Result, Ok, Err, List, [], ◌∷◌, ◌++◌, codes, length, if◌then◌else◌}
use Rattle.std.specs.List.{list_all, filter}
use Rattle.std.specs.Option.{option_and_then, option_map}
use Rattle.std.specs.Result.{result_ok}
use Rattle.adp_model.specs.WideForm as forms
use Rattle.adp_model.specs.WideForm.{WideForm}
use Rattle.adp_model.specs.WellFormed.{are_distinct, is_name, most_leaves}
use Rattle.job_texts.specs.LineTokens.{Token, Word, OpenBracket, CloseBracket, Comma, Plus, Minus, Times, tokens_of}
use Rattle.job_texts.specs.TermText.{begins_number, is_among, is_word, number_among, number_of}

-- what joins the two sides of a term
pub data Operation : Type 0 where
  Sum : Operation
  Difference : Operation
  Product : Operation
  Greater : Operation
  Lesser : Operation

-- a term as it is spelled: its leaves are words, numbers or variables
pub data TermTree : Type 0 where
  Leaf : (word : List ℕ) → TermTree
  Join : (operation : Operation) → (left : TermTree) → (right : TermTree) → TermTree

-- ---- the grammar

-- what a piece of the grammar reads at the front of tokens, and the tokens behind it
pub record Piece : Type 0 where
  pub tree : TermTree
  pub behind : List Token

abbrev pub piece : TermTree → List Token → Option Piece
piece tree tokens = Some (record { tree = tree; behind = tokens })

-- a closing bracket, and the tokens behind it
abbrev pub closed : TermTree → List Token → Option Piece
closed tree (CloseBracket ∷ tokens) = piece tree tokens
closed tree tokens = None

-- the tokens behind a comma
abbrev pub behind_comma : List Token → Option (List Token)
behind_comma (Comma ∷ tokens) = Some tokens
behind_comma tokens = None

-- the function of this name: `max` or `min`
abbrev pub function_of : List ℕ → Option Operation
function_of word =
    if is_word (codes "max") word then Some Greater
    else (if is_word (codes "min") word then Some Lesser else None)

-- the 0 from which a first `-` takes away
abbrev pub nought : TermTree
nought = Leaf (codes "0")

-- Each piece is read in so many steps at most; `tree_of` gives more than any text takes.
abbrev mutual
  -- SUM: a `-` or none, a PRODUCT, and any number of further ones, each behind a `+` or a `-`
  pub sum_at : ℕ → List Token → Option Piece
  sum_at zero tokens = None
  sum_at (suc steps) (Minus ∷ tokens) =
      option_and_then (λ (right : Piece). further_sum steps (Join Difference nought right.tree) right.behind)
      (product_at steps tokens)
  sum_at (suc steps) tokens =
      option_and_then (λ (first : Piece). further_sum steps first.tree first.behind) (product_at steps tokens)

  pub further_sum : ℕ → TermTree → List Token → Option Piece
  further_sum zero left tokens = None
  further_sum (suc steps) left (Plus ∷ tokens) =
      option_and_then (λ (right : Piece). further_sum steps (Join Sum left right.tree) right.behind)
      (product_at steps tokens)
  further_sum (suc steps) left (Minus ∷ tokens) =
      option_and_then (λ (right : Piece). further_sum steps (Join Difference left right.tree) right.behind)
      (product_at steps tokens)
  further_sum (suc steps) left tokens = piece left tokens

  -- PRODUCT: an ATOM, and any number of further ones, each behind a `*`
  pub product_at : ℕ → List Token → Option Piece
  product_at zero tokens = None
  product_at (suc steps) tokens =
      option_and_then (λ (first : Piece). further_product steps first.tree first.behind) (atom_at steps tokens)

  pub further_product : ℕ → TermTree → List Token → Option Piece
  further_product zero left tokens = None
  further_product (suc steps) left (Times ∷ tokens) =
      option_and_then (λ (right : Piece). further_product steps (Join Product left right.tree) right.behind)
      (atom_at steps tokens)
  further_product (suc steps) left tokens = piece left tokens

  -- ATOM: a SUM in brackets, `max` or `min` of two SUMs, a number or a variable
  pub atom_at : ℕ → List Token → Option Piece
  atom_at zero tokens = None
  atom_at (suc steps) (OpenBracket ∷ tokens) =
      option_and_then (λ (inner : Piece). closed inner.tree inner.behind) (sum_at steps tokens)
  atom_at (suc steps) (Word word ∷ OpenBracket ∷ tokens) =
      option_and_then (λ operation. option_and_then (λ (left : Piece). second_side steps operation left) (sum_at steps tokens))
      (function_of word)
  atom_at (suc steps) (Word word ∷ tokens) = piece (Leaf word) tokens
  atom_at (suc steps) tokens = None

  -- behind the first side of a function: a comma, the second side, and the closing bracket
  pub second_side : ℕ → Operation → Piece → Option Piece
  second_side zero operation left = None
  second_side (suc steps) operation left =
      option_and_then
      (λ tokens. option_and_then (λ (right : Piece). closed (Join operation left.tree right.tree) right.behind) (sum_at steps tokens))
      (behind_comma left.behind)

-- a piece behind which nothing stands
abbrev pub whole : Piece → Option TermTree
whole found = nothing_behind found.behind
  where
    nothing_behind : List Token → Option TermTree
    nothing_behind [] = Some found.tree
    nothing_behind tokens = None

-- the tree of the term that tokens spell; nothing where they spell none
abbrev pub tree_of : List Token → Option TermTree
tree_of tokens = option_and_then whole (sum_at (5 * length tokens + 5) tokens)

-- ---- the term of a tree

-- the words of the leaves, from left to right
abbrev pub leaf_words : TermTree → List (List ℕ)
leaf_words (Leaf word) = word ∷ []
leaf_words (Join operation left right) = leaf_words left ++ leaf_words right

-- every variable is a name
abbrev pub leaves_are_names : TermTree → Bool
leaves_are_names tree = list_all (λ word. begins_number word || is_name word) (leaf_words tree)

-- every number word is a number
abbrev pub leaves_are_numbers : TermTree → Bool
leaves_are_numbers tree = list_all (λ word. not (begins_number word) || is_some (number_of word)) (leaf_words tree)

-- every variable is declared
abbrev pub leaves_are_declared : List (List ℕ) → TermTree → Bool
leaves_are_declared variables tree =
    list_all (λ word. begins_number word || is_among variables word) (leaf_words tree)

-- how many leaves there are
abbrev pub leaf_count : TermTree → ℕ
leaf_count tree = length (leaf_words tree)

-- a variable stands twice
abbrev pub names_variable_twice : TermTree → Bool
names_variable_twice tree = not (are_distinct (filter (λ word. not (begins_number word)) (leaf_words tree)))

-- the term of two sides
abbrev pub joined : Operation → WideForm → WideForm → WideForm
joined Sum left right = forms.Sum left right
joined Difference left right = forms.Difference left right
joined Product left right = forms.Product left right
joined Greater left right = forms.Greater left right
joined Lesser left right = forms.Lesser left right

-- the term of these variables that a tree spells
abbrev pub wide_of : List (List ℕ) → TermTree → WideForm
wide_of variables (Leaf word) =
    if begins_number word then forms.Number (pos (unwrap_or (number_of word) 0)) else forms.Value (number_among variables word)
wide_of variables (Join operation left right) = joined operation (wide_of variables left) (wide_of variables right)

-- what is wrong with a text: its tokens are no term's, a variable is no name, a number is none, a variable isn't
-- declared, there are too many leaves, a variable stands twice
pub data WideFault : Type 0 where
  OtherShape : WideFault
  NoName : WideFault
  NoNumber : WideFault
  Undeclared : WideFault
  TooMany : (leaves : ℕ) → WideFault
  Twice : WideFault

-- the term of these variables that a tree spells, or the first that is wrong with it
abbrev pub wide_of_tree : List (List ℕ) → TermTree → Result WideForm WideFault
wide_of_tree variables tree =
    if not (leaves_are_names tree) then Err NoName
    else (if not (leaves_are_numbers tree) then Err NoNumber
    else (if not (leaves_are_declared variables tree) then Err Undeclared
    else (if not (nat_le (leaf_count tree) most_leaves) then Err (TooMany (leaf_count tree))
    else (if names_variable_twice tree then Err Twice
    else Ok (wide_of variables tree)))))

-- the tree of the term that a text spells; nothing where it spells none
abbrev pub text_tree : List ℕ → Option TermTree
text_tree text = option_and_then tree_of (result_ok (tokens_of text))

-- the wide term of these variables that a text spells, or the first that is wrong with it
abbrev pub wide_reading : List ℕ → List (List ℕ) → Result WideForm WideFault
wide_reading text variables = judge (text_tree text)
  where
    judge : Option TermTree → Result WideForm WideFault
    judge None = Err OtherShape
    judge (Some tree) = wide_of_tree variables tree
