use Rattle.std.proofs.Common.{length}
use Rattle.table_certificate.proofs.SplitLines.{IsPassed}
use Rattle.table_certificate.proofs.job_split.split_input.Given as goal

abbrev pub invariant-lines : goal.invariant-lines
invariant-lines l = IsPassed l.bytes l.rest l.count

abbrev pub decreases-lines : goal.decreases-lines
decreases-lines l = length l.rest
