use Rattle.std.proofs.Common.{length, take}
use Rattle.k_best.proofs.Laying.{IsLaidTo}
use Rattle.k_best.proofs.heads.+meet_laid.Given as goal

abbrev pub decreases-meet_laid : goal.decreases-meet_laid
decreases-meet_laid l = length l.arguments.now

-- the heads are settled of the splits whose next argument ends before this position
abbrev pub invariant-loop-end : goal.invariant-loop-end
invariant-loop-end l =
    IsLaidTo l.basis.lines.now l.basis.k l.fn.node.cell l.fn.node.choice.alt (take l.fn.count l.fn.node.choice.cuts)
    l.initial.end l.end l.initial.found.items l.found.items
