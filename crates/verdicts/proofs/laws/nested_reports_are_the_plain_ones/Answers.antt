use Rattle.verdicts.proofs.NestedReports.{plain_in_mode}
use Rattle.verdicts.proofs.laws.nested_reports_are_the_plain_ones.Goals as goal

pub returns : goal.returns
returns c p least greatest ranks checked hidden hides mode command number wins report =
    plain_in_mode p
    (λ number' alone n told. c.nested_reports_are_the_plain_ones.ensures.report n p least greatest ranks checked number' alone told)
    (λ number' alone n wins' told. c.nested_reports_are_the_plain_ones.ensures.wins n p least greatest ranks checked number' alone wins' told)
    (λ number' alone n best told. c.nested_lists_are_the_plain_ones.ensures n p least greatest ranks checked number' alone best told)
    (λ number' alone n told. c.nested_scores_are_the_plain_ones.ensures p least greatest ranks checked number' alone n told)
    hidden hides mode command number wins report
