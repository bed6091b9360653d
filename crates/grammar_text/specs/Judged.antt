-- What a declaration shows by itself, its term aside, and what the reading of its term shows.
use Rattle.std.specs.Prelude.{◌≡◌, ℕ, Bool, true, false, not, nat_le, Result, Ok, Err, List}
use Rattle.std.specs.List.{list_all, list_any}
use Rattle.adp_model.specs.declared.grammar.Linear as linear
use Rattle.adp_model.specs.declared.grammar.Term.{Term}
use Rattle.adp_model.specs.declared.grammar.Term.TheVariants.{Linear, Wide}
use Rattle.adp_model.specs.WideForm.{WideForm}
use Rattle.job_texts.specs.WideText as wide
use Rattle.job_texts.specs.TermText.{TermFault, Shape, Name, Number, Unknown}
use Rattle.adp_model.specs.WellFormed.{is_name}
use Rattle.adp_model.specs.WellFormed.{most_leaves}
use Rattle.job_texts.specs.LetTerms.{LetTerm, counted_leaves, has_names, has_numbers, has_variables, names_twice, term_of}
use Rattle.job_texts.specs.Declarations.{Declaration, Let, Rule}
use Rattle.job_texts.specs.TextFaults.{name_words, misnumbers, is_crossed_alternative}
use Rattle.algebra_terms.specs.declared.wide_error.WideError.{WideError}
use Rattle.algebra_terms.specs.declared.wide_error.WideError.TheVariants as errors

-- a word at the place of a name is no name; the variables of a term aside
abbrev pub has_other_name : Declaration → Bool
has_other_name declaration = not (list_all is_name (name_words declaration))

-- a weight or a bound is none; terms aside
abbrev pub has_other_number : Declaration → Bool
has_other_number (Let sign variables term) = false
has_other_number declaration = misnumbers declaration

-- the high bound of a run or of a size is below its low bound
abbrev pub has_crossed_run : Declaration → Bool
has_crossed_run (Rule name alternatives) = list_any is_crossed_alternative alternatives
has_crossed_run declaration = false

-- the names, the numbers and the variables of a term are right
abbrev pub IsRight : List (List ℕ) → LetTerm → Type 0
IsRight variables term = (has_names term ≡ true) × (has_numbers term ≡ true) × (has_variables variables term ≡ true)

-- the term, or the first that is wrong with what spells it; of want of memory nothing is said
abbrev pub IsJudged : List (List ℕ) → LetTerm → Result Term WideError → Type 0
IsJudged variables term (Ok found) =
    IsRight variables term × (nat_le (counted_leaves term) most_leaves ≡ true) × (names_twice term ≡ false)
    × (found ≡ term_of variables term)
IsJudged variables term (Err errors.Name) = has_names term ≡ false
IsJudged variables term (Err errors.Number) = (has_names term ≡ true) × (has_numbers term ≡ false)
IsJudged variables term (Err errors.Unknown) =
    (has_names term ≡ true) × (has_numbers term ≡ true) × (has_variables variables term ≡ false)
IsJudged variables term (Err (errors.Count leaves)) =
    IsRight variables term × (nat_le (counted_leaves term) most_leaves ≡ false) × (counted_leaves term ≡ leaves)
IsJudged variables term (Err errors.Twice) =
    IsRight variables term × (nat_le (counted_leaves term) most_leaves ≡ true) × (names_twice term ≡ true)
IsJudged variables term (Err errors.Shape) = ⊥
IsJudged variables term (Err errors.Memory) = Unit {0}

-- what the reading of a linear term gives; of want of memory nothing is said
abbrev pub GivesFirst : Result linear.Linear TermFault → Result Term WideError → Type 0
GivesFirst found (Ok (Linear term)) = found ≡ Ok term
GivesFirst found (Ok (Wide term)) = ⊥
GivesFirst found (Err errors.Shape) = found ≡ Err Shape
GivesFirst found (Err errors.Name) = found ≡ Err Name
GivesFirst found (Err errors.Number) = found ≡ Err Number
GivesFirst found (Err errors.Unknown) = found ≡ Err Unknown
GivesFirst found (Err (errors.Count leaves)) = ⊥
GivesFirst found (Err errors.Twice) = ⊥
GivesFirst found (Err errors.Memory) = Unit {0}

-- what the reading of a wide term gives; of want of memory nothing is said
abbrev pub GivesSecond : Result WideForm wide.WideFault → Result Term WideError → Type 0
GivesSecond found (Ok (Linear term)) = ⊥
GivesSecond found (Ok (Wide term)) = found ≡ Ok term
GivesSecond found (Err errors.Shape) = found ≡ Err wide.OtherShape
GivesSecond found (Err errors.Name) = found ≡ Err wide.NoName
GivesSecond found (Err errors.Number) = found ≡ Err wide.NoNumber
GivesSecond found (Err errors.Unknown) = found ≡ Err wide.Undeclared
GivesSecond found (Err (errors.Count leaves)) = found ≡ Err (wide.TooMany leaves)
GivesSecond found (Err errors.Twice) = found ≡ Err wide.Twice
GivesSecond found (Err errors.Memory) = Unit {0}
