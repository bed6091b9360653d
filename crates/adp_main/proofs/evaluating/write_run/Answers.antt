use Rattle.std.proofs.Common.{ℕ, ap, sym, subst}
use Rattle.std.proofs.lemmas.Result.{err_from_is_err_and}
use Rattle.verdicts.specs.Command.{Command}
use Rattle.evaluators.specs.Runs.{IsFinished, IsNoteOf}
use Rattle.adp_main.proofs.Noting.{run_noted}
use Rattle.adp_main.proofs.Running.{ending_of, not_written}
use Rattle.adp_main.proofs.evaluating.write_run.Goals as goal

pub note-requires : goal.note-requires
note-requires g c =
    subst (λ (seed : ℕ). IsFinished c.args.problem.now seed c.args.finished.now)
    (sym (ap (λ (it : Command). it.seed) c.command.view_is)) c.requires.is_finished

pub returns-in_err-note-clause-ending : goal.returns-in_err-note-clause-ending
returns-in_err-note-clause-ending g c =
    let p = err_from_is_err_and c.from_residual.result c.from_residual.ensures.1 in
    rw (p.1, p.2) (not_written _ _)

pub returns-clause-ending : goal.returns-clause-ending
returns-clause-ending g c =
    let is_note = subst (λ (seed : ℕ). IsNoteOf c.args.problem.now seed c.args.finished.now c.in_ok-note.note)
    (ap (λ (it : Command). it.seed) c.command.view_is) c.in_ok-note.ensures in
    ending_of (run_noted c.demanded_cells_are_unique.ensures.count c.args.command.now c.args.problem.now
    c.args.finished.now c.requires c.args.report.now c.in_ok-note.note is_note) c.write_noted.result _ _ _ _
    c.write_noted.ensures.ending
