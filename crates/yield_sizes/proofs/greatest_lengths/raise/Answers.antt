use Rattle.std.proofs.Common.{ℕ, ◌+◌, ◌<◌, inl, inr, Bool, Option, List, drop, sym, subst, ◌∙◌, arith}
use Rattle.yield_sizes.specs.declared.places.Place.{Place}
use Rattle.yield_sizes.specs.KnownGreatest.{rise_left}
use Rattle.yield_sizes.proofs.GreatestLengths.{HasRisen, place_within, rising_at}
use Rattle.yield_sizes.proofs.greatest_lengths.raise.Goals as goal

abbrev default : Place
default = record { rule = 0; alternative = 0 }

-- a change after a change
risen_then : (old_known : List (Option ℕ)) (old_risen : List Bool) (known : List (Option ℕ)) (risen : List Bool) (new_known : List (Option ℕ)) (new_risen : List Bool) → HasRisen old_known old_risen known risen → HasRisen known risen new_known new_risen → HasRisen old_known old_risen new_known new_risen
risen_then old_known old_risen known risen new_known new_risen (inl same) (inl again) = inl (again.0 ∙ same.0, again.1 ∙ same.1)
risen_then old_known old_risen known risen new_known new_risen (inl same) (inr rose) = inr (subst (λ it. rise_left new_known < rise_left it) same.0 rose)
risen_then old_known old_risen known risen new_known new_risen (inr rose) (inl same) = inr (subst (λ it. rise_left it < rise_left old_known) (sym same.0) rose)
risen_then old_known old_risen known risen new_known new_risen (inr rose) (inr again) = inr (omega arith)

pub raise_at-requires-clause-place : goal.raise_at-requires-clause-place
raise_at-requires-clause-place c = place_within c.args.grammar.now c.args.places.now c.loop-place.place-index default c.requires.places c.loop-place-test.true

pub raise_at-requires-clause-rising : goal.raise_at-requires-clause-rising
raise_at-requires-clause-rising c = (
  drop (c.loop-place.place-index + 1) c.args.places.now,
  rising_at c.args.grammar.now c.args.places.now c.loop-place.place-index default c.loop-place.known c.loop-place.risen c.loop-place-test.true c.loop-place.invariant.rising,
)

pub loop-place-preserved : goal.loop-place-preserved
loop-place-preserved c =
    let waiting : List Place = drop (c.loop-place.place-index + 1) c.args.places.now in
    record {
      rising = c.raise_at.ensures.rising waiting (rising_at c.args.grammar.now c.args.places.now c.loop-place.place-index default c.loop-place.known c.loop-place.risen c.loop-place-test.true c.loop-place.invariant.rising);
      change = risen_then c.args.known.now c.args.risen.now c.loop-place.known c.loop-place.risen c.raise_at.new.known c.raise_at.new.risen c.loop-place.invariant.change c.raise_at.ensures.change;
    }
