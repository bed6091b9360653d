use Rattle.std.proofs.Common.{◌≡◌, ◌+◌, ◌-◌, ◌*◌, ◌≤◌, length}
use Rattle.cell_answers.specs.NotedEnds.{IsReached}
use Rattle.cell_answers.proofs.filling.+totals.Given as goal

abbrev pub decreases-greatest_total : goal.decreases-greatest_total
decreases-greatest_total l = 4 * length l.arguments.now

abbrev pub decreases-tail_total : goal.decreases-tail_total
decreases-tail_total l = 4 * length l.arguments.now + 1

abbrev pub decreases-total_at : goal.decreases-total_at
decreases-total_at l = 4 * length l.laid.now.others.now + 2

abbrev pub decreases-total_by_ends : goal.decreases-total_by_ends
decreases-total_by_ends l = 4 * length l.laid.now.others.now + 3

-- the greatest of the totals whose first argument ends before this position
abbrev pub invariant-total_by_ends-loop-reached : goal.invariant-total_by_ends-loop-reached
invariant-total_by_ends-loop-reached l = record {
  same : l.tails ≡ l.known.lines.now;
  begun : l.ends.start ≤ l.reached.end;
  reached : IsReached l.known.lines.now l.laid l.reached;
}

abbrev pub decreases-total_by_ends-loop-reached : goal.decreases-total_by_ends-loop-reached
decreases-total_by_ends-loop-reached l = l.ends.end - l.reached.end
