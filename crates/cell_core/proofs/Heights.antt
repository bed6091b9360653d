-- A number that falls from each cell to its demanded children.
use Rattle.std.specs.Prelude.{ℕ, ◌<◌, Option, List}
use Rattle.adp_model.specs.Checks.{IsChecked}
use Rattle.adp_model.specs.declared.cell.Cell.{Cell}
use Rattle.adp_model.specs.PosedProblem.{PosedProblem, axiom_cell}
use Rattle.adp_model.specs.ProblemFields.{IsAdmissible}
use Rattle.adp_model.specs.Demand.{IsDemanded, IsDemandedChild}
use Rattle.adp_model.specs.Heights.{height_of, heights_end}

pub record Heights (p : PosedProblem) : Type 0 where
  pub height : Cell → ℕ
  pub falls : (cell child : Cell) → IsDemandedChild p cell child → height child < height cell
  pub few : IsDemanded p (axiom_cell p) → height (axiom_cell p) < heights_end p

-- the heights by the ranks of the problem, from the law on heights
pub heights : (p : PosedProblem) → IsAdmissible p
    → ((q : PosedProblem) (least : List ℕ) (greatest : List (Option ℕ)) (ranks : List ℕ)
    → IsChecked q.grammar q.algebra least greatest ranks → (cell child : Cell) → IsDemandedChild q cell child
    → height_of q ranks child < height_of q ranks cell)
    → ((q : PosedProblem) (least : List ℕ) (greatest : List (Option ℕ)) (ranks : List ℕ)
    → IsChecked q.grammar q.algebra least greatest ranks → (cell : Cell) → IsDemanded q cell
    → height_of q ranks cell < heights_end q)
    → Heights p
heights p is falls few = record {
  height = height_of p is.ranks;
  falls = falls p is.least is.greatest is.ranks is.checked;
  few = few p is.least is.greatest is.ranks is.checked (axiom_cell p);
}
