use Rattle.std.proofs.Common.{◌≡◌, map, take}
use Rattle.evaluators.specs.Runs.{moves_of, ended_of}
use Rattle.evaluators.proofs.finished.Finished.told.Given as goal

abbrev pub invariant-loop-machine : goal.invariant-loop-machine
invariant-loop-machine l = record {
  moves : l.moves.items ≡ map moves_of (take l.machine-index l.machine-items);
  ended : l.ended.items ≡ map ended_of (take l.machine-index l.machine-items);
}
