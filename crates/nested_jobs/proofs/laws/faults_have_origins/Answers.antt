use Rattle.nested_jobs.proofs.Origins.{nested_at_line, origin_read, origin_within}
use Rattle.nested_jobs.proofs.laws.faults_have_origins.Goals as goal

pub returns : goal.returns
returns c = record { within = origin_within; read = origin_read; line = nested_at_line }
