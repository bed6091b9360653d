use Rattle.table_certificate.proofs.JobThere.{parted_there}
use Rattle.table_certificate.proofs.laws.inputs_part_at_job.Goals as goal

pub returns : goal.returns
returns c = parted_there
