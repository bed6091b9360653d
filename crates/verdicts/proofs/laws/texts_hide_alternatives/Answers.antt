use Rattle.nested_jobs.specs.NestedJob.{hidden_in}
use Rattle.verdicts.proofs.NestedReports.{hides_of}
use Rattle.verdicts.proofs.laws.texts_hide_alternatives.Goals as goal

pub returns : goal.returns
returns c bytes job is =
    hides_of job.grammar (hidden_in bytes)
    (λ hidden some. c.hidden_rules_are_nested_alternatives.ensures bytes job hidden is some)
