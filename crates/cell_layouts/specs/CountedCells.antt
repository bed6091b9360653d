-- The cells that a rule's sizes and anchors leave to it, by numbers.
use Rattle.std.specs.Prelude.{◌≡◌, ℕ, ◌-◌, ◌<◌, ◌≤◌, Bool, false, Option, None, IfSome, IsTrue, List, length, slice_index, slice_index_or}
use Rattle.adp_model.specs.declared.grammar.Grammar.{Grammar}
use Rattle.adp_model.specs.Sizes.{IsLeastSize, IsGreatestSize}
use Rattle.adp_model.specs.ProblemFields.{AreLeftAnchors, AreRightAnchors}
use Rattle.cell_layouts.specs.declared.cells.RuleBounds.{RuleBounds}

-- a span of a word that the rule's sizes and anchors leave to its cells
pub record LeavesSpan (bounds : RuleBounds) (len from to : ℕ) : Type 0 where
  pub in_order : from ≤ to
  pub in_word : to ≤ len
  pub long : bounds.least ≤ to - from
  pub short : IfSome bounds.greatest (λ most. to - from ≤ most)
  pub left : IsTrue bounds.left → from ≡ 0
  pub right : IsTrue bounds.right → to ≡ len

-- the sizes and the anchors of one rule, in the lists of those of all rules
abbrev pub bounds_in : List ℕ → List (Option ℕ) → List Bool → List Bool → ℕ → RuleBounds
bounds_in least greatest left right rule = record {
  least = slice_index least rule;
  greatest = slice_index_or greatest rule None;
  left = slice_index_or left rule false;
  right = slice_index_or right rule false;
}

-- the lists have the sizes of the grammar's rules, and tell which rules are anchored
pub record AreBounds (grammar : Grammar) (least : List ℕ) (greatest : List (Option ℕ)) (left right : List Bool)
    : Type 0 where
  pub least_each : length least ≡ length grammar.rules
  pub greatest_each : length greatest ≡ length grammar.rules
  pub least_are : (rule : ℕ) → rule < length grammar.rules → IsLeastSize grammar rule (slice_index least rule)
  pub greatest_are : (rule : ℕ) → rule < length grammar.rules
      → IsGreatestSize grammar rule (slice_index_or greatest rule None)
  pub left_told : AreLeftAnchors grammar left
  pub right_told : AreRightAnchors grammar right
