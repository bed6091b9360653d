use Rattle.std.proofs.Common.{length, Some}
use Rattle.adp_model.specs.Parts.{algebra_of}
use Rattle.table_certificate.specs.Claims.{claimed}
use Rattle.table_certificate.specs.SplitVerdicts.{IsJudged, worths}
use Rattle.table_certificate.proofs.Judging.{HasAmong}
use Rattle.table_certificate.proofs.LaidVerdicts.{HasVerdictAt}
use Rattle.table_certificate.proofs.splits.+judge.Given as goal

abbrev pub decreases-judge : goal.decreases-judge
decreases-judge l = length l.arguments.now

-- the best of the splits whose first argument ends before this position
abbrev pub invariant-loop-end : goal.invariant-loop-end
invariant-loop-end l =
    IsJudged (algebra_of l.lines).goal
    (HasAmong (HasVerdictAt l.lines (claimed l.claims) l.term (worths l.front) l.argument l.others l.from l.to) l.initial.end l.end) (Some l.best)
