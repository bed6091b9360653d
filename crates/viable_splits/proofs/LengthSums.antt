-- How many letters arguments may have, and the positions that this leaves to the one before them.
use Rattle.std.proofs.Common.{◌≡◌, ℕ, ◌+◌, ◌-◌, ◌≤◌, min, max, List, [], ◌∷◌, refl, arith}
use Rattle.adp_model.specs.declared.grammar.Arg.{Arg}
use Rattle.adp_model.specs.PosedProblem.{PosedProblem}
use Rattle.viable_splits.specs.Placing.{AreLengths, AreEnds, ArePositions}
use Rattle.viable_splits.proofs.Dividing.{cover_forward}

-- one more before others
pub more_lengths : (p : PosedProblem) (argument : Arg) (arguments : List Arg) (most least greatest others_least others_greatest : ℕ) → AreLengths p (argument ∷ []) most least greatest → AreLengths p arguments most others_least others_greatest → AreLengths p (argument ∷ arguments) most (least + others_least) (greatest + others_greatest)
more_lengths p argument arguments most least greatest others_least others_greatest one others =
    record {
      bounds = λ from to short h.
          let first = h.1.0.in_order in
          let later = cover_forward p arguments h.0 to h.2 in
          let a = one.bounds from h.0 (omega arith) (h.0, h.1, refl) in
          let b = others.bounds h.0 to (omega arith) h.2 in
          (omega (arith, a.0, b.0), omega (arith, a.1, b.1));
      least_kept = grind (arith, one.least_kept, others.least_kept);
      greatest_kept = grind (arith, one.greatest_kept, others.greatest_kept);
    }

-- the positions that the others' lengths leave
pub positions_left : (p : PosedProblem) (argument : Arg) (later : List Arg) (from last start end least greatest low high : ℕ) → from ≤ last → AreEnds p argument from last (record { start = start; end = end }) → AreLengths p later (last - from) least greatest → low ≡ min (max start (last - greatest)) (last + 1) → high ≡ min end (last + 1 - least) → ArePositions p argument later from last (record { start = low; end = high })
positions_left p argument later from last start end least greatest low high span ends lengths low_is high_is =
    record {
      fit = λ to l h. (ends.exact to (omega (arith, ends.up_to_last))).1 (omega arith, omega arith);
      none_missed = λ to fits cover.
          let before = cover_forward p later to last cover in
          let between = (ends.exact to before).0 fits in
          let long = fits.0.in_order in
          let b = lengths.bounds to last (omega arith) cover in
          (omega (arith, b.0, b.1, between.0), omega (arith, b.0, b.1, between.1));
      behind = omega (arith, ends.behind);
      up_to_last = omega (arith, ends.up_to_last);
    }
