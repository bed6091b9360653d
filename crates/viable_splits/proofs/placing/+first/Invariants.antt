use Rattle.std.proofs.Common.{◌+◌, ◌*◌, ◌-◌, ◌≤◌, length}
use Rattle.viable_splits.specs.Placing.{HasNoneWithin}
use Rattle.viable_splits.proofs.placing.+first.Given as goal

abbrev pub decreases-first_cuts : goal.decreases-first_cuts
decreases-first_cuts g l = 3 * length l.arguments.now + 2

abbrev pub decreases-first_behind : goal.decreases-first_behind
decreases-first_behind g l = 3 * length l.arguments.now + 1

abbrev pub decreases-first_within : goal.decreases-first_within
decreases-first_within g l = 3 * length l.arguments.now + 3

-- the positions of the range that are passed over
abbrev pub invariant-first_within-loop-position : goal.invariant-first_within-loop-position
invariant-first_within-loop-position g l =
    (l.initial.start ≤ l.start)
    × HasNoneWithin (g.M.Matcher.posed l.walk.matcher.now) l.walk.cell l.arguments l.initial.start l.start l.number l.cuts.turns

abbrev pub decreases-first_within-loop-position : goal.decreases-first_within-loop-position
decreases-first_within-loop-position g l = l.end - l.start
