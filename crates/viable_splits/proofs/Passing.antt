-- Places that a walk passes over, since the arguments may have no letters from them on.
use Rattle.std.proofs.Common.{◌≡◌, ℕ, ◌+◌, ◌<◌, ◌≤◌, inl, inr, List, length, sym, subst, arith}
use Rattle.std.proofs.lemmas.Bool.{cases_lt}
use Rattle.adp_model.specs.declared.grammar.Arg.{Arg}
use Rattle.adp_model.specs.declared.cell.Cell.{Cell}
use Rattle.adp_model.specs.PosedProblem.{PosedProblem}
use Rattle.viable_splits.specs.declared.cuts.Cuts.{Cuts}
use Rattle.viable_splits.specs.Placing.{CoverNone, HasNoneBehind, HasNoneWithin, IsFirstBehind, IsFirstWithin, IsNextPosition, moved}
use Rattle.viable_splits.proofs.Dividing.{divide_cover}

-- cuts divide the rest from none of them
pub none_passed : (p : PosedProblem) (cell : Cell) (arguments : List Arg) (start end number : ℕ) (turns : List ℕ) → 0 < length arguments → length arguments + number ≤ 3 → CoverNone p arguments start end → HasNoneWithin p cell arguments start end number turns
none_passed p cell arguments start end number turns some few none position low high others l h r =
    none position cell.to low high (divide_cover p arguments position cell.to others some (omega arith) h)

-- two ranges, one behind the other
pub none_joined : (p : PosedProblem) (cell : Cell) (arguments : List Arg) (start between end number : ℕ) (turns : List ℕ) → HasNoneWithin p cell arguments start between number turns → HasNoneWithin p cell arguments between end number turns → HasNoneWithin p cell arguments start end number turns
none_joined p cell arguments start between end number turns earlier later position low high =
    elim (cases_lt position between) [
      | inl before ↦ earlier position low before
      | inr after ↦ later position after high
    ]

-- a position from which cuts divide nothing
pub none_there : (p : PosedProblem) (cell : Cell) (arguments : List Arg) (position number : ℕ) (turns : List ℕ) → HasNoneBehind p cell arguments position (number + 1) 0 turns → HasNoneWithin p cell arguments position (position + 1) number turns
none_there p cell arguments position number turns none other low high =
    let same : other ≡ position = omega arith in
    subst (λ it. HasNoneBehind p cell arguments it (number + 1) 0 turns) (sym same) none

-- the positions passed over so far, those before the next one, and that one
pub none_up_to : (p : PosedProblem) (cell : Cell) (arguments : List Arg) (first start end position number : ℕ) (turns : List ℕ) → 0 < length arguments → length arguments + number ≤ 3 → HasNoneWithin p cell arguments first start number turns → IsNextPosition p arguments start end position → HasNoneBehind p cell arguments position (number + 1) 0 turns → HasNoneWithin p cell arguments first (position + 1) number turns
none_up_to p cell arguments first start end position number turns some few earlier next none =
    none_joined p cell arguments first position (position + 1) number turns
    (none_joined p cell arguments first start position number turns earlier (none_passed p cell arguments start position number turns some few next.none_before))
    (none_there p cell arguments position number turns none)

-- cuts from the next position
pub first_there : (p : PosedProblem) (cell : Cell) (arguments : List Arg) (first start end position number : ℕ) (cuts found : Cuts) → 0 < length arguments → length arguments + number ≤ 3 → first ≤ start → HasNoneWithin p cell arguments first start number cuts.turns → IsNextPosition p arguments start end position → IsFirstBehind p cell arguments position (number + 1) 0 (moved cuts number position) found → IsFirstWithin p cell arguments first end number cuts found
first_there p cell arguments first start end position number cuts found some few behind earlier next there =
    let low = next.low in
    record {
      position = position;
      low = omega arith;
      high = next.high;
      there = there;
      none_before = none_joined p cell arguments first start position number cuts.turns earlier (none_passed p cell arguments start position number cuts.turns some few next.none_before);
    }
