use Rattle.std.proofs.Common.{ap}
use Rattle.std.proofs.lemmas.Result.{IfOk-weaker}
use Rattle.verdicts.specs.Command.{Command}
use Rattle.adp_main.proofs.Noting.{ran_to_end}
use Rattle.adp_main.proofs.evaluating.run_alone.Goals as goal

pub returns : goal.returns
returns g c =
    IfOk-weaker c.run_in_turn.result _ _ (ran_to_end c.args.command.now c.command.inside.seed c.command.inside.workers
    c.requires (ap (λ (it : Command). it.seed) c.command.view_is) (ap (λ (it : Command). it.workers) c.command.view_is)
    c.args.prepared) c.run_in_turn.ensures
