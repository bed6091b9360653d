-- What the checks of a grammar find, and so what laws about its trees rest on: sizes and ranks of its rules, and terms
-- that keep the order of scores.
use Rattle.std.specs.Prelude.{◌≡◌, ℕ, ◌<◌, Option, None, List, length, slice_index, slice_index_or, IsTrue}
use Rattle.adp_model.specs.declared.grammar.Grammar.{Grammar}
use Rattle.adp_model.specs.Parts.{alternatives_of, alternative_at, sign_at, term_for}
use Rattle.adp_model.specs.Terms.{CanHaveAny, KeepsOrder, KeepsStrictOrder}
use Rattle.adp_model.specs.TermSigns.{IsStrict}
use Rattle.adp_model.specs.GrammarSigns.{CanHave}
use Rattle.adp_model.specs.Sizes.{IsLeastSize, IsGreatestSize, IsPossible}
use Rattle.adp_model.specs.Loops.{IsEdge}
use Rattle.adp_model.specs.WellFormed.{is_well_formed}

-- a well-formed grammar and one of its algebras have these least sizes, greatest sizes and ranks, one a rule: the sizes
-- are the rules', each empty-context edge goes to a lesser rank, each alternative is possible, and the algebra's terms
-- keep the order of scores
pub record IsChecked (grammar : Grammar) (algebra : ℕ) (least : List ℕ) (greatest : List (Option ℕ)) (ranks : List ℕ)
    : Type 0 where
  pub well_formed : IsTrue (is_well_formed grammar)
  pub algebra_known : algebra < length grammar.algebras
  pub least_each : length least ≡ length grammar.rules
  pub greatest_each : length greatest ≡ length grammar.rules
  pub ranks_each : length ranks ≡ length grammar.rules
  pub least_are : (rule : ℕ) → rule < length grammar.rules → IsLeastSize grammar rule (slice_index least rule)
  pub greatest_are : (rule : ℕ) → rule < length grammar.rules
      → IsGreatestSize grammar rule (slice_index_or greatest rule None)
  pub ranks_fall : (rule other : ℕ) → IsEdge grammar rule other → slice_index ranks other < slice_index ranks rule
  pub ranks_fit : (rule : ℕ) → rule < length grammar.rules → slice_index ranks rule < length grammar.rules
  pub possible : (rule alternative : ℕ) → alternative < length (alternatives_of grammar rule)
      → IsPossible least greatest (alternative_at grammar rule alternative)
  pub orderly : (sign : ℕ) → sign < length grammar.signs
      → KeepsOrder (CanHave grammar algebra) (term_for grammar algebra sign) (sign_at grammar sign).kinds

-- each term of the algebra keeps the order of scores strictly
abbrev pub KeepsStrictOrders : Grammar → ℕ → Type 0
KeepsStrictOrders grammar algebra =
    (sign : ℕ) → sign < length grammar.signs
    → KeepsStrictOrder CanHaveAny (term_for grammar algebra sign) (sign_at grammar sign).kinds

-- each term of the algebra is strict
abbrev pub IsStrictAlgebra : Grammar → ℕ → Type 0
IsStrictAlgebra grammar algebra =
    (sign : ℕ) → sign < length grammar.signs → IsStrict (term_for grammar algebra sign) (sign_at grammar sign).kinds
