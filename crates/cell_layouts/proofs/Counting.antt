-- Counted cells by numbers: where the numbers are a rule's sizes and the flags tell its anchors, the counted cells of the
-- rule are the spans that these leave.
use Rattle.std.proofs.Common.{◌↔◌, ℕ, ◌-◌, ◌<◌, ◌≤◌, Bool, true, false, MatchBool, Option, None, IsTrue, List, length, slice_index, slice_index_or, refl}
use Rattle.std.proofs.lemmas.Bool.{false≢true}
use Rattle.adp_model.specs.declared.grammar.Grammar.{Grammar}
use Rattle.adp_model.specs.Sizes.{IsLeastSize, IsGreatestSize, IsWithinSizes, IsBetween}
use Rattle.adp_model.specs.Cells.{IsCounted, AreCountedEnds}
use Rattle.adp_model.specs.ProblemFields.{AreLeftAnchors, AreRightAnchors}
use Rattle.cell_layouts.specs.declared.cells.RuleBounds.{RuleBounds}
use Rattle.cell_layouts.specs.declared.layout.Side.{Side}
use Rattle.cell_layouts.specs.declared.layout.Side.TheVariants.{Rows, Columns}
use Rattle.cell_layouts.specs.CountedCells.{LeavesSpan, bounds_in}
use Rattle.cell_layouts.specs.Layout.{AreBoundsOf, AreCountedFars, cell_at}

-- sizes as numbers
abbrev pub SizesAreNumbers : Type 0
SizesAreNumbers =
    (grammar : Grammar) (least : List ℕ) (greatest : List (Option ℕ)) (rule len : ℕ)
    → IsLeastSize grammar rule (slice_index least rule) → IsGreatestSize grammar rule (slice_index_or greatest rule None)
    → IsWithinSizes grammar rule len ↔ IsBetween least greatest rule len

-- a flag, and what it tells
anchored : (flag : Bool) (Anchored Free : Type 0) (at : Type 0) → MatchBool flag Anchored Free → IsTrue flag → (Anchored → at) → at
anchored true Anchored Free at told holds by = by told
anchored false Anchored Free at told holds by = absurd (false≢true holds)

told_anchored : (flag : Bool) (Free : Type 0) (at : Type 0) → MatchBool flag (Free → ⊥) Free → (IsTrue flag → at) → (Free → ⊥) → at
told_anchored true Free at told by is = by refl
told_anchored false Free at told by is = absurd (is told)

module _ (grammar : Grammar) (least : List ℕ) (greatest : List (Option ℕ)) (left right : List Bool) (rule : ℕ) (known : rule < length grammar.rules) (numbers : SizesAreNumbers) (low : IsLeastSize grammar rule (slice_index least rule)) (high : IsGreatestSize grammar rule (slice_index_or greatest rule None)) (lefts : AreLeftAnchors grammar left) (rights : AreRightAnchors grammar right) where
  counted_by_numbers : (len from to : ℕ) → IsCounted grammar len (record { rule = rule; from = from; to = to }) ↔ LeavesSpan (bounds_in least greatest left right rule) len from to
  counted_by_numbers len from to =
      let between = numbers grammar least greatest rule (to - from) low high in (
        λ counted.
            let size = between.0 counted.size in
            record {
              in_order = counted.in_order;
              in_word = counted.in_word;
              long = size.0;
              short = size.1;
              left = λ flag. anchored (slice_index_or left rule false) _ _ _ (lefts.told rule known) flag counted.left;
              right = λ flag. anchored (slice_index_or right rule false) _ _ _ (rights.told rule known) flag counted.right;
            },
        λ span. record {
          rule = known;
          in_order = span.in_order;
          in_word = span.in_word;
          size = between.1 (span.long, span.short);
          left = told_anchored (slice_index_or left rule false) _ _ (lefts.told rule known) span.left;
          right = told_anchored (slice_index_or right rule false) _ _ (rights.told rule known) span.right;
        },
      )

  -- the bounds leave the spans of the counted cells
  pub bounds_counted : (len : ℕ) → AreBoundsOf grammar len rule (bounds_in least greatest left right rule)
  bounds_counted len from to = counted_by_numbers len from to

  -- the ends that the bounds leave are those of the counted cells
  pub ends_counted : (len from first past : ℕ) → ((to : ℕ) → LeavesSpan (bounds_in least greatest left right rule) len from to ↔ ((first ≤ to) × (to < past))) → AreCountedEnds grammar len rule from first past
  ends_counted len from first past ends to =
      let same = counted_by_numbers len from to in
      (λ counted. (ends to).0 (same.0 counted), λ within. same.1 ((ends to).1 within))

-- ---- the far ends of counted cells

either_way : {A B C : Type 0} → A ↔ B → B ↔ C → A ↔ C
either_way (f, back) (g, return) = (λ a. g (f a), λ c. back (return c))

-- the far ends that the bounds leave are those of the counted cells
pub fars_counted : (grammar : Grammar) (len : ℕ) (side : Side) (rule near first past : ℕ) (bounds : RuleBounds) → AreBoundsOf grammar len rule bounds
    → ((far : ℕ) → LeavesSpan bounds len (cell_at side 0 near far).from (cell_at side 0 near far).to ↔ ((first ≤ far) × (far < past))) → AreCountedFars grammar len side rule near first past
fars_counted grammar len Rows rule near first past bounds are fars far = either_way (are near far) (fars far)
fars_counted grammar len Columns rule near first past bounds are fars far = either_way (are far near) (fars far)
