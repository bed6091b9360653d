use Rattle.table_certificate.proofs.JobLines.{has_job, parted_once}
use Rattle.table_certificate.proofs.RightText.{parts_at_job}
use Rattle.table_certificate.proofs.laws.right_certificates_part_at_job.Goals as goal

pub returns-clause-split : goal.returns-clause-split
returns-clause-split c = parts_at_job

pub returns-clause-once : goal.returns-clause-once
returns-clause-once c = parted_once

pub returns-clause-line : goal.returns-clause-line
returns-clause-line c = has_job
