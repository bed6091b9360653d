use Rattle.std.proofs.Common.{length}
use Rattle.table_certificate.proofs.BlockSteps.{AreRead}
use Rattle.table_certificate.proofs.blocks.read_block.Given as goal

abbrev pub invariant-lines : goal.invariant-lines
invariant-lines l = AreRead l.grammar l.text l.rest l.claims l.count

abbrev pub decreases-lines : goal.decreases-lines
decreases-lines l = length l.rest
