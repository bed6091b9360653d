use Rattle.std.proofs.Common.{Some}
use Rattle.adp_model.specs.Parts.{algebra_of}
use Rattle.table_certificate.specs.Claims.{claimed}
use Rattle.table_certificate.specs.SplitVerdicts.{HasVerdictBy, IsJudged}
use Rattle.table_certificate.proofs.Judging.{HasAmong}
use Rattle.table_certificate.proofs.splits.judge_cell.Given as goal

-- the best of the splits by the first alternatives
abbrev pub invariant-loop-alt : goal.invariant-loop-alt
invariant-loop-alt l =
    IsJudged (algebra_of l.lines).goal (HasAmong (HasVerdictBy l.lines (claimed l.claims) l.cell) 0 l.alt) (Some l.best)
