-- The rules to which another rule leads, by their numbers in an order.
use Rattle.std.specs.Prelude.{◌≡◌, ℕ, ◌+◌, Option, Some, List, slice_get}
use Rattle.std.specs.Int.{bit_at}
use Rattle.adp_model.specs.declared.cell.Cell.{Cell}
use Rattle.adp_model.specs.PosedProblem.{PosedProblem}
use Rattle.adp_model.specs.Demand.{IsDemandedChild}
use Rattle.split_lines.specs.Laid.{DemandsBy}
use Rattle.suffix_cells.specs.Visits.{suffix_cell}

-- the bit of the rule's number is set
abbrev pub HasRule : List ℕ → ℕ → ℕ → Type 0
HasRule order bits rule = (number : ℕ) × (slice_get order number ≡ Some rule) × (bit_at bits number ≡ 1)

-- wherever a cell of the rule begins that has the letters up to the word's end, what the alternative demands begins one
-- letter later, and its rule is among these
abbrev pub LeadsBy : PosedProblem → List ℕ → ℕ → ℕ → ℕ → Type 0
LeadsBy p order rule alternative bits =
    (from : ℕ) (child : Cell) → DemandsBy p (suffix_cell p rule from) alternative child
    → (child.from ≡ from + 1) × HasRule order bits child.rule

-- whatever the cell demands does
abbrev pub LeadsTo : PosedProblem → List ℕ → ℕ → ℕ → Type 0
LeadsTo p order rule bits =
    (from : ℕ) (child : Cell) → IsDemandedChild p (suffix_cell p rule from) child
    → (child.from ≡ from + 1) × HasRule order bits child.rule

-- the rules of these numbers lead to others so, where bits tell of them
abbrev pub AreTargets : PosedProblem → List ℕ → List (Option ℕ) → Type 0
AreTargets p order targets =
    (number rule bits : ℕ) → slice_get order number ≡ Some rule → slice_get targets number ≡ Some (Some bits)
    → LeadsTo p order rule bits
