use Rattle.std.proofs.Common.{vec_len}
use Rattle.evaluators.specs.declared.gated.GatedWorker.{GatedWorker}
use Rattle.evaluators.specs.Working.{TableWorker}
use Rattle.evaluators.proofs.Joining.{IsGathered}
use Rattle.evaluators.proofs.crew.join_all.Given as goal

abbrev pub invariant-loop-gated : goal.invariant-loop-gated
invariant-loop-gated g l =
    IsGathered (λ (gated : GatedWorker TableWorker _). gated.worker) l.table l.seed l.count l.fn.workers.items
    l.workers.items l.left.pass l.left.wins.items l.left.machines.items

abbrev pub decreases-loop-gated : goal.decreases-loop-gated
decreases-loop-gated g l = vec_len l.workers
