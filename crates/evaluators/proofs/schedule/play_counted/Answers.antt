use Rattle.std.proofs.Common.{ℕ, List, subst, arith}
use Rattle.evaluators.specs.Working.{TableWorker}
use Rattle.evaluators.specs.Playing.{AllFrom, IsPlayed}
use Rattle.evaluators.specs.declared.gated.GatedWorker.{GatedWorker}
use Rattle.evaluators.proofs.Listed.{take_whole}
use Rattle.evaluators.proofs.schedule.play_counted.Goals as goal

pub returns-clause-played : goal.returns-clause-played
returns-clause-played g c =
    let over = c.loop-at-test.false in
    let end = c.loop-at.auto.at-end in
    subst (λ (schedule : List ℕ). AllFrom (λ number (gated : GatedWorker TableWorker _).
    IsPlayed c.args.table.now schedule number gated.worker) 0 c.loop-at.workers)
    (take_whole c.args.schedule.now c.loop-at.at (omega (arith, over, end))) c.loop-at.invariant.played
