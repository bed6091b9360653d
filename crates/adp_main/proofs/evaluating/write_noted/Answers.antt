use Rattle.std.specs.declared.alloc.AllocError.{AllocError}
use Rattle.std.proofs.lemmas.Result.{err_from_is_err_and}
use Rattle.adp_main.proofs.Noting.{noted_unwritten, noted_untold, noted_written}
use Rattle.adp_main.proofs.evaluating.write_noted.Goals as goal

pub returns-in_err-write_report-clause-ending : goal.returns-in_err-write_report-clause-ending
returns-in_err-write_report-clause-ending g c =
    let p = err_from_is_err_and c.from_residual.result c.from_residual.ensures.1 in
    rw (p.1, p.2) (noted_unwritten c.args.report.now c.args.note c.in_err-write_report.field-0.0
    (g.G.Gate.runs c.args.gate.now) _ _ c.in_err-write_report.ensures.written)

pub returns-in_err-finished-clause-ending : goal.returns-in_err-finished-clause-ending
returns-in_err-finished-clause-ending g c =
    let p = err_from_is_err_and c.from_residual-in_err-finished.result c.from_residual-in_err-finished.ensures.1 in
    rw (p.1, p.2) (noted_untold c.args.report.now c.args.note (g.G.Gate.runs c.args.gate.now)
    (g.G.Gate.runs c.finished.new.self) _ _ c.in_err-finished.ensures.noted c.in_ok-write_report.ensures.written)

pub returns-clause-ending : goal.returns-clause-ending
returns-clause-ending g c =
    noted_written AllocError _ c.args.report.now c.args.note _ _ _ _ c.in_ok-finished.ensures.noted
    c.in_ok-write_report.ensures.written
