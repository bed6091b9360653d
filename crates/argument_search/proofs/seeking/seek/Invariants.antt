use Rattle.std.specs.Prelude.{◌≡◌, true, false}
use Rattle.adp_model.specs.declared.cell.Cell.{Cell}
use Rattle.adp_model.specs.SplitArguments.{SplitArgument, AsksFor}
use Rattle.memo_model.specs.Visits.{is_behind, is_behind_position}
use Rattle.memo_model.specs.Visits.{IsWalk}
use Rattle.argument_search.proofs.WalkEnds.{positions_left}
use Rattle.argument_search.proofs.seeking.seek.Given as goal

abbrev pub invariant-loop-position : goal.invariant-loop-position
invariant-loop-position g l = record {
  walk : IsWalk l.problem (record { cell = l.visit.cell; first = l.visit.first; turns = l.visit.turns; at = l.at });
  on : (argument : SplitArgument) → is_behind_position l.problem l.visit l.at argument ≡ true
      → is_behind l.problem l.visit argument ≡ true;
  passed : (argument : SplitArgument) (child : Cell) → argument.cell ≡ l.visit.cell → AsksFor l.problem argument child
      → is_behind l.problem l.visit argument ≡ true → is_behind_position l.problem l.visit l.at argument ≡ false
      → g.N.NotedCells.is_noted l.noted child;
}

abbrev pub decreases-loop-position : goal.decreases-loop-position
decreases-loop-position g l = positions_left l.problem l.visit l.at
