-- What the reader of terms has in its hands, seen as what a term's text is made of.
use Rattle.std.specs.Prelude.{◌≡◌, ℕ, ℤ, map, Bool, true, false, Option, Some, None, nat_eq, Result, Ok, Err, List, [], ◌∷◌, MatchOption, MatchResult, if◌then◌else◌}
use Rattle.std.specs.List.{list_any}
use Rattle.std.specs.Option.{option_copied, option_eq}
use Rattle.std.specs.Borrow.{Bor}
use Rattle.std.specs.Ordering.{nat_cmp}
use Rattle.std.specs.Cmp.Lexicographic.{slice_cmp}
use Rattle.std.specs.BTreeMap.{BTreeMap, get_by}
use lib.Pointwise.{pointwise}
use Rattle.algebra_terms.specs.declared.lexer.Token as spans
use Rattle.algebra_terms.specs.declared.part.Part as code_parts
use Rattle.algebra_terms.specs.declared.error.TermError.{TermError}
use Rattle.algebra_terms.specs.declared.error.TermError.TheVariants as errors
use Rattle.algebra_terms.specs.Tokens.{said}
use Rattle.job_texts.specs.LineTokens.{Token, Times}
use Rattle.job_texts.specs.TermParts.{further_parts}
use Rattle.job_texts.specs.TermText.{Part, with_part, total, TermFault, Shape, Name, Number, Unknown}
use Rattle.adp_model.specs.declared.grammar.Linear.{Linear}

-- a part without where its variable lies in memory
abbrev pub part_of : code_parts.Part → Part
part_of part = record { variable = option_copied part.variable; amount = part.amount }

abbrev pub begins_times : List Token → Bool
begins_times [] = false
begins_times (Times ∷ others) = true
begins_times (token ∷ others) = false

-- the tokens after the first of these tokens of a line, where that is `*`
abbrev pub IsAfterTimes : List ℕ → List Token → Option (Bor (List spans.Token)) → Type 0
IsAfterTimes line tokens after =
    MatchOption after (begins_times tokens ≡ false) (λ rest. tokens ≡ Times ∷ map (said line) rest.now)

-- the first of these parts, and the tokens of the line after it, where there is one
abbrev pub IsPart : List ℕ → Option (List Part) → Option (code_parts.Part × Bor (List spans.Token)) → Type 0
IsPart line parts found =
    MatchOption found (parts ≡ None)
    (λ first. parts ≡ with_part (part_of first.0) (further_parts (map (said line) first.1.now)))

-- the same where there may be none
abbrev pub IsFurtherPart : List ℕ → Option (List Part)
    → Result (Option (code_parts.Part × Bor (List spans.Token))) TermError → Type 0
IsFurtherPart line parts result =
    MatchResult result
    (λ found. MatchOption found (parts ≡ Some [])
    (λ first. parts ≡ with_part (part_of first.0) (further_parts (map (said line) first.1.now))))
    (λ error. (error ≡ errors.Shape) × (parts ≡ None))

-- there are no parts; of want of memory nothing is said
abbrev pub IsMissing : Option (List Part) → TermError → Type 0
IsMissing parts errors.Shape = parts ≡ None
IsMissing parts errors.Memory = Unit {0}
IsMissing parts error = ⊥

abbrev pub parts_seen : List code_parts.Part → List Part
parts_seen parts = map part_of parts

-- the part is one of this variable
abbrev pub is_part_of : List ℕ → Part → Bool
is_part_of variable part = option_eq (pointwise nat_eq) part.variable (Some variable)

-- what the parts add to a variable, where one of them has it
abbrev pub factor_in : List Part → List ℕ → Option ℤ
factor_in parts variable = if list_any (is_part_of variable) parts then Some (total (Some variable) parts) else None

-- the map has what the parts add to each of their variables
abbrev pub AreTotals : BTreeMap (Bor (List ℕ)) ℤ → List Part → Type 0
AreTotals totals parts =
    (variable : List ℕ) → get_by (λ key. slice_cmp nat_cmp variable key.now) totals ≡ factor_in parts variable

-- what a text spells or the first that is wrong with it; want of memory aside
abbrev pub Gives : Result Linear TermFault → Result Linear TermError → Type 0
Gives reading (Ok term) = reading ≡ Ok term
Gives reading (Err errors.Shape) = reading ≡ Err Shape
Gives reading (Err errors.Name) = reading ≡ Err Name
Gives reading (Err errors.Number) = reading ≡ Err Number
Gives reading (Err errors.Unknown) = reading ≡ Err Unknown
Gives reading (Err errors.Memory) = Unit {0}
