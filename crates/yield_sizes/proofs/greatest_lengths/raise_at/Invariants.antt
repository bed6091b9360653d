use Rattle.std.proofs.Common.{◌≡◌, ◌<◌, ◌⊎◌, List, ◌∷◌}
use Rattle.adp_model.specs.Parts.{alternative_at}
use Rattle.yield_sizes.specs.declared.places.Place.{Place}
use Rattle.yield_sizes.specs.KnownGreatest.{AreRising, alternative_greatest, rise_left}
use Rattle.yield_sizes.proofs.greatest_lengths.raise_at.Given as goal

-- they are on their way, and the place waits
abbrev pub invariant-loop-alternative : goal.invariant-loop-alternative
invariant-loop-alternative l = record {
  rising : (waiting : List Place) → AreRising l.grammar (l.place ∷ waiting) l.initial.known l.initial.risen
      → AreRising l.grammar (l.place ∷ waiting) l.known l.risen;
  greatest : l.greatest ≡ alternative_greatest l.known (alternative_at l.grammar l.place.rule l.place.alternative);
  change : ((l.known ≡ l.initial.known) × (l.risen ≡ l.initial.risen)) ⊎ (rise_left l.known < rise_left l.initial.known);
}

abbrev pub decreases-loop-alternative : goal.decreases-loop-alternative
decreases-loop-alternative l = rise_left l.known
