use Rattle.std.proofs.Common.{◌∙◌, ap}
use Rattle.verdicts.specs.Command.{Command}
use Rattle.adp_main.proofs.Noting.{followed}
use Rattle.adp_main.proofs.evaluating.follow_schedule.Goals as goal

pub returns : goal.returns
returns c =
    followed c.args.command.now c.args.problem.now c.command.inside.seed c.command.inside.workers c.deref.result.now
    c.requires (ap (λ (it : Command). it.seed) c.command.view_is) (ap (λ (it : Command). it.workers) c.command.view_is)
    (c.deref.ensures.value ∙ c.in_ok-schedule.ensures) c.run_schedule.result c.run_schedule.ensures.finished
    c.run_schedule.ensures.machines c.run_schedule.ensures.schedule
