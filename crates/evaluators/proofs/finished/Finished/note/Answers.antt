use Rattle.evaluators.proofs.finished.Finished.note.Goals as goal

pub invariant_of-result : goal.invariant_of-result
invariant_of-result c = (
  c.args.problem.now,
  c.args.seed,
  record { finished = c.args.self.now; is_finished = c.requires; is_note = c.in_ok-note.ensures },
)
