use Rattle.std.proofs.Common.{◌≡◌, [], ◌∷◌, ◌++◌, ◌∙◌, Ok, Err, codes, subst, arith}
use Rattle.std.proofs.lemmas.Result.{err_from_is_err_and}
use Rattle.adp_model.specs.Report.{line}
use Rattle.adp_main.specs.Reporting.{HasWritten}
use Rattle.adp_main.specs.Writing.{IsReportWritten}
use Rattle.adp_main.proofs.Behind.{behind_none, behind_some, has_first, has_joined, no_piece, one_piece}
use Rattle.adp_main.proofs.cert.write_input.Goals as goal

pub returns-in_err-job-clause-written : goal.returns-in_err-job-clause-written
returns-in_err-job-clause-written g c =
    let p = err_from_is_err_and c.from_residual.result c.from_residual.ensures.1 in
    rw (p.1, p.2) (no_piece _ _)

pub returns-then-words-gt0-clause-written : goal.returns-then-words-gt0-clause-written
returns-then-words-gt0-clause-written g c =
    let piece : c.deref.result.now ≡ line (codes "job") ++ c.args.input.now =
    c.deref.ensures.value ∙ c.in_ok-job.ensures in
    let held = g.K.Sink.held c.args.out.now in
    let held' = g.K.Sink.held c.write_report.new.out in
    subst (HasWritten c.write_report.result held held') (behind_some c.args.words c.args.input.now (λ none. omega (arith, none, c.if-words-gt0.true)))
    (one_piece c.write_report.result held held' (line (codes "job") ++ c.args.input.now)
    (subst (IsReportWritten c.write_report.result held held') piece c.write_report.ensures.written))

pub returns-in_err-write_report-clause-written : goal.returns-in_err-write_report-clause-written
returns-in_err-write_report-clause-written g c =
    let p = err_from_is_err_and c.from_residual-in_err-write_report.result c.from_residual-in_err-write_report.ensures.1 in
    let none : c.args.words ≡ 0 = omega (arith, c.if-words-gt0.false) in
    rw (p.1, p.2) (subst (HasWritten (Err c.in_err-write_report.field-0.0) _ _) (behind_none c.args.words c.args.input.now none)
    (has_first c.in_err-write_report.field-0.0 _ _ (line (codes "cert") ∷ [])
    ((line (codes "job") ++ c.args.input.now) ∷ [])
    (one_piece (Err c.in_err-write_report.field-0.0) _ _ (line (codes "cert")) c.in_err-write_report.ensures.written)))

pub returns-clause-written : goal.returns-clause-written
returns-clause-written g c =
    let none : c.args.words ≡ 0 = omega (arith, c.if-words-gt0.false) in
    let held = g.K.Sink.held c.args.out.now in
    let mid = g.K.Sink.held c.write_report-2.new.out in
    let held' = g.K.Sink.held c.write_report-3.new.out in
    let piece : c.deref-2.result.now ≡ line (codes "job") ++ c.args.input.now =
    c.deref-2.ensures.value ∙ c.in_ok-job.ensures in
    subst (HasWritten c.write_report-3.result held held') (behind_none c.args.words c.args.input.now none)
    (has_joined c.write_report-3.result held mid held' (line (codes "cert") ∷ [])
    ((line (codes "job") ++ c.args.input.now) ∷ [])
    (one_piece (Ok c.in_ok-write_report.field-0) held mid (line (codes "cert")) c.in_ok-write_report.ensures.written)
    (one_piece c.write_report-3.result mid held' (line (codes "job") ++ c.args.input.now)
    (subst (IsReportWritten c.write_report-3.result mid held') piece c.write_report-3.ensures.written)))
