use Rattle.std.proofs.Common.{IfOk, ap, subst}
use Rattle.adp_model.specs.PosedProblem.{PosedProblem}
use Rattle.evaluators.specs.Runs.{IsFinished}
use Rattle.verdicts.specs.Command.{Command}
use Rattle.adp_main.proofs.Noting.{ran_freely}
use Rattle.adp_main.proofs.evaluating.run_over.Goals as goal

pub returns : goal.returns
returns g c =
    ran_freely c.args.command.now c.args.problem.now c.command.inside.seed c.command.inside.workers c.requires.mode
    (ap (λ (it : Command). it.seed) c.command.view_is) (ap (λ (it : Command). it.workers) c.command.view_is)
    c.run_prepared.result
    (subst (λ (p : PosedProblem). IfOk c.run_prepared.result (IsFinished p c.command.inside.seed))
    c.in_ok-prepared.ensures c.run_prepared.ensures.finished) c.run_prepared.ensures.machines c.run_prepared.ensures.ended
