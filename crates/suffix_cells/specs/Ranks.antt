-- Rules by rising ranks.
use Rattle.std.specs.Prelude.{◌≡◌, ℕ, ◌<◌, List, length, slice_index}
use Rattle.std.specs.List.{Contains}
use Rattle.adp_model.specs.declared.cell.Cell.{Cell}
use Rattle.adp_model.specs.PosedProblem.{PosedProblem}
use Rattle.adp_model.specs.Demand.{IsDemandedChild}

-- all rules of a problem, each once, so that on one span a cell demands only cells of rules that stand before its own
pub record AreRanked (p : PosedProblem) (rules : List ℕ) : Type 0 where
  pub each : length rules ≡ length p.grammar.rules
  pub known : (rule : ℕ) → Contains rules rule → rule < length p.grammar.rules
  pub all : (rule : ℕ) → rule < length p.grammar.rules → Contains rules rule
  pub once : (i j : ℕ) → i < length rules → j < length rules → slice_index rules i ≡ slice_index rules j → i ≡ j
  pub children_first : (i j : ℕ) (cell child : Cell) → i < length rules → j < length rules
      → slice_index rules i ≡ cell.rule → slice_index rules j ≡ child.rule
      → child.from ≡ cell.from → child.to ≡ cell.to → IsDemandedChild p cell child → j < i
