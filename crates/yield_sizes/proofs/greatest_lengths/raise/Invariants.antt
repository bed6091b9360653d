use Rattle.std.proofs.Common.{◌≡◌, ◌<◌, ◌⊎◌, drop}
use Rattle.yield_sizes.specs.KnownGreatest.{AreRising, rise_left}
use Rattle.yield_sizes.proofs.greatest_lengths.raise.Given as goal

abbrev pub invariant-loop-place : goal.invariant-loop-place
invariant-loop-place l = record {
  rising : AreRising l.grammar (drop l.place-index l.places) l.known l.risen;
  change : ((l.known ≡ l.initial.known) × (l.risen ≡ l.initial.risen)) ⊎ (rise_left l.known < rise_left l.initial.known);
}
