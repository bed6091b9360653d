use Rattle.std.proofs.Common.{ℕ, refl, ap, subst}
use Rattle.adp_model.specs.PosedProblem.{PosedProblem}
use Rattle.evaluators.specs.Runs.{IsNoteOf}
use Rattle.verdicts.specs.Command.{Command}
use Rattle.adp_main.specs.RunNotes.{IsRunFor}
use Rattle.adp_main.proofs.FirstWords.{evaluated}
use Rattle.adp_main.proofs.slot.Slot.evaluate.Goals as goal

pub returns : goal.returns
returns g c =
    let command = c.args.self.now.command.now in
    let finished = c.in_ok-finished.finished in
    let note = c.in_ok-note.note in
    let seeded = subst (λ (seed : ℕ). IsNoteOf c.problem-problem.result.now seed finished note)
    (ap (λ (it : Command). it.seed) c.command.view_is) c.in_ok-note.ensures in
    record {
      wins = finished.wins.items;
      noted = (
        evaluated command.mode c.requires.posted.0 c.requires.mode,
        finished,
        subst (λ (p : PosedProblem). IsRunFor command p finished) c.in_ok-prepared.ensures c.in_ok-finished.ensures,
        subst (λ (p : PosedProblem). IsNoteOf p command.seed finished note) c.problem-problem.ensures seeded,
        refl,
      );
      report = λ asked solved. c.in_ok-report.ensures asked solved;
    }
