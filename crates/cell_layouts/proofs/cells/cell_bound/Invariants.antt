use Rattle.std.proofs.Common.{◌*◌, ◌≤◌}
use Rattle.adp_model.specs.Cells.{IsPlaceOf}
use Rattle.cell_layouts.proofs.cells.cell_bound.Given as goal

abbrev pub invariant-loop-rule : goal.invariant-loop-rule
invariant-loop-rule l = record {
  place : IsPlaceOf l.grammar l.n (record { rule = l.rule; from = 0; to = 0 }) l.count;
  few : l.count ≤ l.rule * 16008001;
}
