use Rattle.table_certificate.proofs.OneFalseLine.{one_false_line}
use Rattle.table_certificate.proofs.uniqueness.first_false_line_is_unique.Goals as goal

pub returns : goal.returns
returns c = one_false_line
