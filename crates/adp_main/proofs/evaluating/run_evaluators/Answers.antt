use Rattle.std.proofs.Common.{ap}
use Rattle.verdicts.specs.Command.{Command}
use Rattle.adp_main.proofs.Noting.{ran_freely}
use Rattle.adp_main.proofs.evaluating.run_evaluators.Goals as goal

pub returns : goal.returns
returns g c =
    ran_freely c.args.command.now c.args.problem.now c.command.inside.seed c.command.inside.workers c.requires
    (ap (λ (it : Command). it.seed) c.command.view_is) (ap (λ (it : Command). it.workers) c.command.view_is)
    c.run_workers.result c.run_workers.ensures.finished c.run_workers.ensures.machines c.run_workers.ensures.ended
