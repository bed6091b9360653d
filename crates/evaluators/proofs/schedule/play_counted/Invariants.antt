use Rattle.std.proofs.Common.{◌≡◌, map, take}
use Rattle.evaluators.specs.Runs.{moves_of}
use Rattle.evaluators.specs.Watching.{HasToldMoves}
use Rattle.evaluators.specs.Working.{post_of}
use Rattle.evaluators.specs.Playing.{AllFrom, IsPlayed}
use Rattle.evaluators.proofs.schedule.play_counted.Given as goal

abbrev pub invariant-loop-at : goal.invariant-loop-at
invariant-loop-at g l = record {
  played : AllFrom (λ number gated. IsPlayed l.table (take l.at l.schedule) number gated.worker) 0 l.workers;
  told : AllFrom (λ number gated. HasToldMoves (g.W.Watcher.told l.watcher) number (moves_of gated.worker.machine)) 0
      l.workers;
  posts : map (λ gated. post_of gated.worker) l.workers ≡ map (λ gated. post_of gated.worker) l.fn.workers;
}
