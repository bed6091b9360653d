use Rattle.std.proofs.Common.{subst}
use Rattle.adp_model.specs.PosedProblem.{PosedProblem}
use Rattle.adp_model.specs.Demand.{IsDemandedCount}
use Rattle.seq_reference.proofs.solved.Solved.cells.Goals as goal

pub returns : goal.returns
returns c = subst (λ (p : PosedProblem). IsDemandedCount p c.self.inside.cells) c.self.view_is c.self.invariant.counted
