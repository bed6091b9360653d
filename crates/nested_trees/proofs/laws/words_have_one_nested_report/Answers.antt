use Rattle.nested_trees.proofs.Preferring.{report_to_nested, report_to_plain}
use Rattle.nested_trees.proofs.laws.words_have_one_nested_report.Goals as goal

pub returns-clause-there : goal.returns-clause-there
returns-clause-there c number p can hidden alone =
    let found = c.words_have_reports.ensures number p can in
    (found.0, report_to_nested p can.least can.greatest can.ranks can.checked hidden alone number found.0 found.1)

pub returns-clause-one : goal.returns-clause-one
returns-clause-one c number p can hidden alone a b told told' =
    let plain = report_to_plain p can.least can.greatest can.ranks can.checked hidden alone number in
    c.report_is_unique.ensures.word number p a b can.checked.well_formed (plain a told) (plain b told')
