use Rattle.std.specs.Prelude.{◌≡◌, ◌<◌, ◌≤◌}
use Rattle.adp_model.specs.declared.cell.Cell.{Cell}
use Rattle.adp_model.specs.SplitArguments.{SplitArgument, AsksFor}
use Rattle.argument_search.specs.Seeking.{turned_of}
use Rattle.argument_search.proofs.walk.first_from.Given as goal

-- the cells that the alternatives ask for that were tried are noted
abbrev pub invariant-loop-number : goal.invariant-loop-number
invariant-loop-number g l = record {
  noted : (argument : SplitArgument) (child : Cell) → argument.cell ≡ l.visit.cell → AsksFor l.problem argument child
      → l.turned ≤ turned_of l.problem l.visit argument.alternative
      → turned_of l.problem l.visit argument.alternative < l.number → g.N.NotedCells.is_noted l.noted child;
}
