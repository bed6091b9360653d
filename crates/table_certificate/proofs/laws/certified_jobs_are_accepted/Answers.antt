use Rattle.table_certificate.proofs.Certified.{all_accepted}
use Rattle.table_certificate.proofs.laws.certified_jobs_are_accepted.Goals as goal

pub returns : goal.returns
returns c = all_accepted (record {
  right = c.written_certificates_are_right.ensures.right;
  split = c.right_certificates_part_at_job.ensures.split;
  once = c.right_certificates_part_at_job.ensures.once;
  line = c.right_certificates_part_at_job.ensures.line;
  accepted = c.right_certificates_are_not_rejected.ensures;
})
