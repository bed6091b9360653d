use Rattle.std.proofs.Common.{MatchOption, ◌∙◌, subst}
use Rattle.adp_model.specs.PosedProblem.{PosedProblem}
use Rattle.adp_model.specs.Answers.{HasNoTree}
use Rattle.adp_model.specs.Bellman.{HasBestScore}
use Rattle.seq_reference.proofs.solved.Solved.score.Goals as goal

pub returns-then-is_marked_in_row-clause-told : goal.returns-then-is_marked_in_row-clause-told
returns-then-is_marked_in_row-clause-told c =
    subst (λ (p : PosedProblem). MatchOption c.score.result (HasNoTree p c.args.cell) (HasBestScore p c.args.cell))
    (c.self.invariant.same_problem ∙ c.self.view_is) c.score.ensures
