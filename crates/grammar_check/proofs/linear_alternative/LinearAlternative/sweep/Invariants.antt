use Rattle.std.proofs.Common.{◌≡◌, ◌-◌, ◌^◌, min, drop}
use Rattle.grammar_check.specs.Plans.{rooms}
use Rattle.grammar_check.proofs.Sweeps.{IsSweeping}
use Rattle.grammar_check.proofs.linear_alternative.LinearAlternative.sweep.Given as goal

abbrev pub invariant-loop-place : goal.invariant-loop-place
invariant-loop-place l = record {
  sweeping : IsSweeping l.bounds (l.len - l.initial.self.fixed) l.spare l.initial.self l.self l.place l.best;
  rest_room : l.rest_room ≡ min (rooms (drop l.place l.initial.self.parts.items)) (2 ^ 64 - 1);
}
