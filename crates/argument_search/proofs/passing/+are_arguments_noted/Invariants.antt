use Rattle.std.proofs.Common.{◌<◌, ◌≤◌, ℕ, true, length, drop}
use Rattle.argument_search.specs.Skipping.{AreNotedIfLaid}
use Rattle.argument_search.proofs.NotedArguments.{AreNotedFrom}
use Rattle.argument_search.proofs.passing.+are_arguments_noted.Given as goal

abbrev pub decreases-are_arguments_noted : goal.decreases-are_arguments_noted
decreases-are_arguments_noted g l = length l.arguments.now

-- with the first argument up to an end that was tried, and what is known behind the second one
abbrev pub invariant-loop-end : goal.invariant-loop-end
invariant-loop-end g l = record {
  noted : (end : ℕ) → l.initial.end ≤ end → end < l.end
      → AreNotedFrom l.lines (g.N.NotedCells.is_noted l.noted) l.argument l.others l.so_far l.from l.to end;
  told : (end : ℕ) → l.behind.start ≤ end → end < l.behind.end
      → AreNotedIfLaid l.lines (g.N.NotedCells.is_noted l.noted) (drop 1 l.others) true end l.to;
}
