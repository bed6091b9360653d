use Rattle.std.proofs.Common.{length}
use Rattle.k_best.proofs.Rows.{IsGone}
use Rattle.k_best.specs.Chosen.{ranks_of}
use Rattle.k_best.proofs.split_ranks.+meet_ranked.Given as goal

abbrev pub decreases-meet_ranked : goal.decreases-meet_ranked
decreases-meet_ranked l = length l.arguments.now

abbrev pub invariant-loop-rank : goal.invariant-loop-rank
invariant-loop-rank l =
    IsGone l.split.lines.now l.split.k l.split.cell l.split.choice (ranks_of l.chosen) l.rank l.initial.listed.items l.listed.items
