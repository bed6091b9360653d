use Rattle.std.proofs.Common.{length, subst}
use Rattle.adp_model.specs.PosedProblem.{PosedProblem}
use Rattle.adp_model.specs.Bounds.{IsScoreBound}
use Rattle.adp_main.proofs.admitting.bound_of.Goals as goal

pub returns-clause-bound : goal.returns-clause-bound
returns-clause-bound c =
    subst (λ (p : PosedProblem). IsScoreBound p.grammar p.algebra (length p.word) c.problem.inside.score_bound)
    c.problem.view_is c.problem.invariant.scores
