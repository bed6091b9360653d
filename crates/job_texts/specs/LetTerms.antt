-- The term of a `let` in each format: the parts of a linear term in the first, the tree of a wide term in the second.
use Rattle.std.specs.Prelude.{ℕ, Bool, true, false, ◌&&◌, ◌==◌, Option, List, if◌then◌else◌}
use Rattle.std.specs.Option.{option_and_then, option_map}
use Rattle.std.specs.Result.{result_ok}
use Rattle.adp_model.specs.declared.grammar.Term.{Term}
use Rattle.adp_model.specs.declared.grammar.Term.TheVariants.{Linear, Wide}
use Rattle.job_texts.specs.LineTokens.{Token, tokens_of}
use Rattle.job_texts.specs.TermText.{Part, are_declared, are_names, are_numbers, linear_of, totals_fit}
use Rattle.job_texts.specs.TermParts.{parts_of}
use Rattle.job_texts.specs.WideText.{TermTree, leaf_count, leaves_are_declared, leaves_are_names, leaves_are_numbers, names_variable_twice, tree_of, wide_of}

pub data LetTerm : Type 0 where
  Parts : (parts : List Part) → LetTerm
  Tree : (tree : TermTree) → LetTerm

-- whether a format is the one with wide terms and with sizes of alternatives
abbrev pub is_second : ℕ → Bool
is_second version = version == 2

-- what tokens spell as a term of this format; nothing where they spell none
abbrev pub term_of_tokens : ℕ → List Token → Option LetTerm
term_of_tokens version tokens =
    if is_second version then option_map (λ tree. Tree tree) (tree_of tokens)
    else option_map (λ parts. Parts parts) (parts_of tokens)

-- what a text spells as a term of this format
abbrev pub term_of_text : ℕ → List ℕ → Option LetTerm
term_of_text version text = option_and_then (term_of_tokens version) (result_ok (tokens_of text))

-- every variable of the term is a name
abbrev pub has_names : LetTerm → Bool
has_names (Parts parts) = are_names parts
has_names (Tree tree) = leaves_are_names tree

-- every number of the term is one; of a linear term the constant and each factor are in range too
abbrev pub has_numbers : LetTerm → Bool
has_numbers (Parts parts) = are_numbers parts && totals_fit parts
has_numbers (Tree tree) = leaves_are_numbers tree

-- every variable of the term is one of these
abbrev pub has_variables : List (List ℕ) → LetTerm → Bool
has_variables variables (Parts parts) = are_declared variables parts
has_variables variables (Tree tree) = leaves_are_declared variables tree

-- how many leaves the term has; those of a linear term aren't counted
abbrev pub counted_leaves : LetTerm → ℕ
counted_leaves (Parts parts) = 0
counted_leaves (Tree tree) = leaf_count tree

-- a wide term names a variable twice
abbrev pub names_twice : LetTerm → Bool
names_twice (Parts parts) = false
names_twice (Tree tree) = names_variable_twice tree

-- the term of these variables
abbrev pub term_of : List (List ℕ) → LetTerm → Term
term_of variables (Parts parts) = Linear (linear_of variables parts)
term_of variables (Tree tree) = Wide (wide_of variables tree)
