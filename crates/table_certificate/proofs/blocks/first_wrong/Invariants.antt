use Rattle.std.proofs.Common.{length}
use Rattle.table_certificate.proofs.BlockSteps.{AreJudged}
use Rattle.table_certificate.proofs.blocks.first_wrong.Given as goal

abbrev pub invariant-lines : goal.invariant-lines
invariant-lines l = AreJudged l.lines l.text l.rest l.count l.earlier

abbrev pub decreases-lines : goal.decreases-lines
decreases-lines l = length l.rest
