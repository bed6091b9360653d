use Rattle.adp_main.proofs.evaluating.plain_report.Goals as goal

pub answered_report-requires-clause-cells : goal.answered_report-requires-clause-cells
answered_report-requires-clause-cells c =
    c.demanded_cells-cells.ensures c.args.problem.now c.requires.0 c.requires.1
