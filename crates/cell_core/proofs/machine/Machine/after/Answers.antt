use Rattle.std.proofs.Common.{subst}
use Rattle.std.specs.Prelude.{◌≡◌, IfSome}
use Rattle.adp_model.specs.PosedProblem.{PosedProblem}
use Rattle.cell_core.proofs.machine.Machine.after.Goals as goal

pub over-requires : goal.over-requires
over-requires g c =
    subst (λ (p : PosedProblem). IfSome c.take_notes-kept.result (λ notes. notes.problem ≡ p)) c.requires
    c.take_notes-kept.ensures.problem
