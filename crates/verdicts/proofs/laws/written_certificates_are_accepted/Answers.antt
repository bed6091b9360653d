use Rattle.verdicts.proofs.Accepted.{accepted}
use Rattle.verdicts.proofs.laws.written_certificates_are_accepted.Goals as goal

pub returns : goal.returns
returns c = λ words others bytes pieces command other is certifies other_is verifies same checks short.
    accepted (record {
      right = c.written_certificates_are_right.ensures.right;
      long = c.written_certificates_are_right.ensures.long;
      split = c.right_certificates_part_at_job.ensures.split;
      reports = c.words_have_reports.ensures;
      hides = c.texts_hide_alternatives.ensures;
    }) words others bytes pieces command other is certifies other_is verifies same checks short
