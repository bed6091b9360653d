use Rattle.k_best.proofs.Reporting.{preferred_whole}
use Rattle.k_best.proofs.reports.solved_report.Goals as goal

pub returns : goal.returns
returns c =
    let p = c.args.problem.now in
    (c.words_have_one_list_report.ensures.preferred c.args.number p c.admissible.ensures.checked.well_formed c.push_number_line-2.new.out.items).1
    (preferred_whole p c.args.number c.from.result c.in_ok-count.count c.new-out.result.items c.push_number_line.new.out.items
    c.push_preferred.new.out.items c.push_number_line-2.new.out.items c.new-out.ensures.items c.from.ensures
    c.in_ok-push_number_line.ensures c.in_ok-count.ensures c.in_ok-push_number_line-2.ensures)
