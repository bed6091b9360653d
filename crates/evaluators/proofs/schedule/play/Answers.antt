use Rattle.std.proofs.Common.{[], get_or, subst, arith}
use Rattle.std.proofs.lemmas.List.Elements.{All-set}
use Rattle.memo_table.specs.declared.probe.Probe.{Probe}
use Rattle.cell_core.specs.MachineViews.{MachineView}
use Rattle.evaluators.specs.Runs.{moves_of}
use Rattle.evaluators.specs.Watching.{HasToldMoves, IsToldOn}
use Rattle.evaluators.specs.Working.{TableWorker, IsReady, IsAtWork, post_of}
use Rattle.evaluators.specs.Playing.{HasKeptEntries, IsPlayed}
use Rattle.evaluators.specs.declared.gated.GatedWorker.{GatedWorker}
use Rattle.evaluators.proofs.Listed.{same_length}
use Rattle.evaluators.proofs.Playing.{from_all, to_all, kept_schedule}
use Rattle.evaluators.proofs.Watching.{unmoved, told_none, told_by}
use Rattle.evaluators.proofs.schedule.play.Goals as goal

pub play_counted-requires-clause-played : goal.play_counted-requires-clause-played
play_counted-requires-clause-played g c =
    from_all (λ (gated : GatedWorker TableWorker _).
    IsReady c.args.table.now gated.worker × HasKeptEntries 0 gated.worker.machine)
    (λ number gated. IsPlayed c.args.table.now [] number gated.worker)
    (λ number gated both. record { ready = both.0; kept = both.1 }) 0 c.args.workers.now
    (λ k d inside. (c.requires.ready k d inside, c.requires.unmoved k d inside))

pub returns-clause-at_work : goal.returns-clause-at_work
returns-clause-at_work g c =
    let words = c.args.table.now in
    let workers = c.play_counted.new.workers in
    let first : GatedWorker TableWorker _ = record {
      worker = c.work.new.worker;
      gate = (get_or workers 0 c.index-workers-0.result).gate;
    }
    in
    All-set (λ (gated : GatedWorker TableWorker _). IsAtWork words gated.worker) workers 0 first
    c.work.ensures.done.at_work
    (to_all (λ (gated : GatedWorker TableWorker _). IsAtWork words gated.worker)
    (λ number (gated : GatedWorker TableWorker _). IsPlayed words c.args.schedule.now number gated.worker)
    (λ number gated played. played.ready.at_work) 0 workers c.play_counted.ensures.played)

pub returns-clause-scheduled : goal.returns-clause-scheduled
returns-clause-scheduled g c =
    let workers = c.play_counted.new.workers in
    let lengths = same_length (λ (gated : GatedWorker TableWorker _). post_of gated.worker) c.args.workers.now workers
    c.play_counted.ensures.posts in
    let first : GatedWorker TableWorker _ = record {
      worker = c.work.new.worker;
      gate = (get_or workers 0 c.index-workers-0.result).gate;
    }
    in
    kept_schedule (λ (gated : GatedWorker TableWorker _). gated.worker) c.args.table.now c.args.schedule.now workers
    first (omega (arith, lengths, c.requires.some)) c.work.ensures.done c.play_counted.ensures.played

pub play_counted-requires-clause-told : goal.play_counted-requires-clause-told
play_counted-requires-clause-told g c =
    let told = g.W.Watcher.told c.args.watcher.now in
    from_all (λ (gated : GatedWorker TableWorker _). HasKeptEntries 0 gated.worker.machine)
    (λ number gated. HasToldMoves told number (moves_of gated.worker.machine))
    (λ number gated kept. told_none number (moves_of gated.worker.machine) told c.requires.untold (unmoved kept)) 0
    c.args.workers.now c.requires.unmoved

pub returns-clause-told : goal.returns-clause-told
returns-clause-told g c =
    let workers = c.play_counted.new.workers in
    let lengths = same_length (λ (gated : GatedWorker TableWorker _). post_of gated.worker) c.args.workers.now workers
    c.play_counted.ensures.posts in
    let first : GatedWorker TableWorker _ = record {
      worker = c.work.new.worker;
      gate = (get_or workers 0 c.index-workers-0.result).gate;
    }
    in
    let told = subst (λ (machine : MachineView Probe). IsToldOn 0 (g.W.Watcher.told c.play_counted.new.watcher)
    (g.W.Watcher.told c.work.new.watcher) (moves_of machine) (moves_of c.work.new.worker.machine))
    c.set_skips.ensures c.work.ensures.told in
    told_by (λ (gated : GatedWorker TableWorker _). moves_of gated.worker.machine) 0
    (g.W.Watcher.told c.play_counted.new.watcher) (g.W.Watcher.told c.work.new.watcher) workers
    first c.index-workers-0.result (omega (arith, lengths, c.requires.some)) told
    c.play_counted.ensures.told
