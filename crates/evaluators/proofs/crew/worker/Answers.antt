use Rattle.std.proofs.Common.{subst}
use Rattle.std.specs.Arc.{arc_value}
use Rattle.rand_pcg.specs.Lcg.{Lcg}
use Rattle.cell_core.specs.MachineViews.{IsFresh}
use Rattle.evaluators.proofs.crew.worker.Goals as goal

pub returns-clause-fresh : goal.returns-clause-fresh
returns-clause-fresh c =
    subst (λ (orders : Lcg). IsFresh (arc_value c.args.prepared.now) orders c.in_ok-machine.machine) c.new.ensures
    c.in_ok-machine.ensures.fresh
