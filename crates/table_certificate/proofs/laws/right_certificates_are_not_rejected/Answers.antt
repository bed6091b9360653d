use Rattle.table_certificate.proofs.Certified.{not_rejected}
use Rattle.table_certificate.proofs.laws.right_certificates_are_not_rejected.Goals as goal

pub returns : goal.returns
returns c = not_rejected
