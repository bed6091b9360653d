use Rattle.table_certificate.proofs.Accepting.{IsReached}
use Rattle.table_certificate.proofs.verifying.verify_all.Given as goal

abbrev pub invariant-loop-index : goal.invariant-loop-index
invariant-loop-index l = IsReached l.checked l.words l.bytes l.rest l.place l.index l.values.items
