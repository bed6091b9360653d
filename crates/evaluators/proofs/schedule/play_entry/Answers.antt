use Rattle.std.proofs.Common.{take, get_or, sym, subst, ◌∙◌, arith}
use Rattle.std.proofs.Math.Seq.{map-set_same}
use Rattle.evaluators.specs.Runs.{moves_of}
use Rattle.evaluators.specs.Watching.{IsToldOn}
use Rattle.evaluators.specs.Working.{TableWorker, post_of}
use Rattle.evaluators.specs.Playing.{IsPlayed}
use Rattle.evaluators.specs.declared.gated.GatedWorker.{GatedWorker}
use Rattle.evaluators.proofs.Playing.{item_of, played_by_none, played_by}
use Rattle.evaluators.proofs.Watching.{told_by}
use Rattle.evaluators.proofs.schedule.play_entry.Goals as goal

pub returns-then-number-workers-clause-played : goal.returns-then-number-workers-clause-played
returns-then-number-workers-clause-played g c =
    let is = c.from-number.ensures in
    let over = c.if-number-workers.true in
    played_by_none (λ (gated : GatedWorker TableWorker _). gated.worker) c.args.table.now c.args.schedule.now c.args.at
    c.requires.inside c.args.workers.now (omega (arith, is, over)) c.requires.played

pub step_once-requires : goal.step_once-requires
step_once-requires g c =
    let number = c.from-number.result in
    let under = c.if-number-workers.false in
    let it = item_of (λ number (gated : GatedWorker TableWorker _).
    IsPlayed c.args.table.now (take c.args.at c.args.schedule.now) number gated.worker) 0 number number
    c.args.workers.now c.index-workers-number.result (omega arith) (omega (arith, under)) c.requires.played in
    record { ready = it.ready }

pub returns-clause-played : goal.returns-clause-played
returns-clause-played g c =
    let number = c.from-number.result in
    let under = c.if-number-workers.false in
    let it = item_of (λ number (gated : GatedWorker TableWorker _).
    IsPlayed c.args.table.now (take c.args.at c.args.schedule.now) number gated.worker) 0 number number
    c.args.workers.now c.index-workers-number.result (omega arith) (omega (arith, under)) c.requires.played in
    played_by (λ (gated : GatedWorker TableWorker _). gated.worker) c.args.table.now c.args.schedule.now c.args.at
    c.requires.inside number c.args.workers.now
    (record {
      worker = c.step_once.new.worker;
      gate = (get_or c.args.workers.now number c.index-workers-number.result).gate;
    })
    (get_or c.args.workers.now number c.index-workers-number.result).worker c.from-number.ensures
    (omega (arith, c.requires.inside, c.requires.long)) it.kept
    c.step_once.ensures.ready c.step_once.ensures.kept c.requires.played

pub returns-clause-posts : goal.returns-clause-posts
returns-clause-posts g c =
    map-set_same (λ (gated : GatedWorker TableWorker _). post_of gated.worker) c.args.workers.now c.from-number.result
    _ c.index-workers-number.result c.step_once.ensures.post

pub returns-clause-told : goal.returns-clause-told
returns-clause-told g c =
    told_by (λ (gated : GatedWorker TableWorker _). moves_of gated.worker.machine) c.from-number.result
    (g.W.Watcher.told c.args.watcher.now) (g.W.Watcher.told c.step_once.new.watcher) c.args.workers.now
    (record {
      worker = c.step_once.new.worker;
      gate = (get_or c.args.workers.now c.from-number.result c.index-workers-number.result).gate;
    })
    c.index-workers-number.result (omega (arith, c.if-number-workers.false))
    (subst (λ number. IsToldOn number (g.W.Watcher.told c.args.watcher.now) (g.W.Watcher.told c.step_once.new.watcher)
    (moves_of (get_or c.args.workers.now c.from-number.result c.index-workers-number.result).worker.machine)
    (moves_of c.step_once.new.worker.machine)) (c.from.ensures ∙ sym c.from-number.ensures) c.step_once.ensures.told)
    c.requires.told
