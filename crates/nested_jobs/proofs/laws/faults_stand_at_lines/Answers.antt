use Rattle.nested_jobs.proofs.Verdicts.{stands_at_line}
use Rattle.nested_jobs.proofs.laws.faults_stand_at_lines.Goals as goal

pub returns : goal.returns
returns c = stands_at_line
