use Rattle.nested_trees.proofs.Preferring.{answer-erased, report-erased, wins-erased}
use Rattle.nested_trees.proofs.laws.nested_reports_are_the_plain_ones.Goals as goal

pub returns-clause-answer : goal.returns-clause-answer
returns-clause-answer c = answer-erased

pub returns-clause-report : goal.returns-clause-report
returns-clause-report c number p least greatest ranks checked hidden alone =
    report-erased p least greatest ranks checked hidden alone number

pub returns-clause-wins : goal.returns-clause-wins
returns-clause-wins c number p least greatest ranks checked hidden alone =
    wins-erased p least greatest ranks checked hidden alone number
