-- Demanded cells: those that the axiom's cell leads to through viable splits. Answers play no part.
use Rattle.std.specs.Prelude.{◌≡◌, ℕ, ◌-◌, ◌<◌, ◌≤◌, ◌⊎◌, List, length, slice_index}
use Rattle.std.specs.List.{Contains}
use Rattle.adp_model.specs.declared.grammar.Arg.TheVariants.{Rule}
use Rattle.adp_model.specs.declared.cell.Cell.{Cell}
use Rattle.adp_model.specs.PosedProblem.{PosedProblem, axiom_cell}
use Rattle.adp_model.specs.Cells.{AreAll, IsCountOf}
use Rattle.adp_model.specs.Sizes.{IsWithinSizes}
use Rattle.adp_model.specs.Splits.{placed, IsViable}

-- a viable split of the cell has the child as the span of a rule argument
abbrev pub IsDemandedChild : PosedProblem → Cell → Cell → Type 0
IsDemandedChild p cell child =
    (alternative : ℕ) × (cuts : List ℕ) × IsViable p cell alternative cuts
    × Contains (placed p cell alternative cuts)
    (record { argument = Rule child.rule; from = child.from; to = child.to })

-- the first cell lies within the second and is shorter, or covers the same span with a lesser rank
pub record IsBelow (ranks : List ℕ) (child cell : Cell) : Type 0 where
  pub begins : cell.from ≤ child.from
  pub in_order : child.from ≤ child.to
  pub ends : child.to ≤ cell.to
  pub lesser : (child.to - child.from < cell.to - cell.from)
      ⊎ ((child.from ≡ cell.from) × (child.to ≡ cell.to) × (slice_index ranks child.rule < slice_index ranks cell.rule))

-- a path leads to the cell: it begins at the axiom's cell, where the word's length lies between the axiom's
-- sizes, and goes on from a cell to one of its demanded children
pub data IsDemanded (p : PosedProblem) : Cell → Type 0 where
  Axiom : IsWithinSizes p.grammar p.grammar.axiom (length p.word) → IsDemanded p (axiom_cell p)
  Child : (cell child : Cell) → IsDemanded p cell → IsDemandedChild p cell child → IsDemanded p child

-- all demanded cells, each once, in order
abbrev pub AreDemanded : PosedProblem → List Cell → Type 0
AreDemanded p cells = AreAll (IsDemanded p) cells

-- the number of demanded cells
abbrev pub IsDemandedCount : PosedProblem → ℕ → Type 0
IsDemandedCount p count = IsCountOf (IsDemanded p) count
