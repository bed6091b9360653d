use Rattle.std.proofs.Common.{◌≡◌, ℕ, ℤ, List, length, map, w64, to_z, of_z, sym, ap, subst, arith}
use Rattle.score_numbers.specs.Packing.{short}
use Rattle.score_numbers.specs.Sums.{AreLowSums, HasScaledSumAt, HasSum, HasSumAt, HaveNumbers}
use Rattle.score_numbers.specs.Greatest.{IsGreatestOf}
use Rattle.score_numbers.proofs.LargestSums.{aligned_positions, as_proper, as_values, from_values, limited_positions, plain_greatest}
use Rattle.score_numbers.proofs.sums.greatest_short.Goals as goal

pub greatest_scaled-requires-clause-have : goal.greatest_scaled-requires-clause-have
greatest_scaled-requires-clause-have c = as_values (HaveNumbers c.args.positions) c.args.first.now c.args.second.now c.requires.have

pub greatest_scattered-requires-clause-first : goal.greatest_scattered-requires-clause-first
greatest_scattered-requires-clause-first c = as_proper short c.args.first.now c.requires.first

pub greatest_scattered-requires-clause-second : goal.greatest_scattered-requires-clause-second
greatest_scattered-requires-clause-second c = as_proper short c.args.second.now c.requires.second

pub greatest_aligned-requires-clause-first : goal.greatest_aligned-requires-clause-first
greatest_aligned-requires-clause-first c = as_proper short c.args.first.now c.requires.first

pub greatest_aligned-requires-clause-second : goal.greatest_aligned-requires-clause-second
greatest_aligned-requires-clause-second c = as_proper short c.args.second.now c.requires.second

pub greatest_scattered-requires-clause-have : goal.greatest_scattered-requires-clause-have
greatest_scattered-requires-clause-have c = as_values (HaveNumbers c.args.positions) c.args.first.now c.args.second.now c.requires.have

pub greatest_limited_short-requires-clause-as_many : goal.greatest_limited_short-requires-clause-as_many
greatest_limited_short-requires-clause-as_many c = (c.are_dense.ensures.0 c.if-not-are_dense.false).0

pub greatest_limited_short-requires-clause-as_many_behind : goal.greatest_limited_short-requires-clause-as_many_behind
greatest_limited_short-requires-clause-as_many_behind c = (c.are_dense.ensures.0 c.if-not-are_dense.false).1

pub greatest_scaled-requires-clause-low : goal.greatest_scaled-requires-clause-low
greatest_scaled-requires-clause-low c =
    let same : c.from.result ≡ short.mark = cc in
    let mark : short.mark ≡ to_z w64 (of_z w64 c.from.result) = ap (λ z. to_z w64 (of_z w64 z)) (sym same) in
    let L : ℤ → List ℤ → List ℤ → Type 0 = λ number. AreLowSums number c.args.scales c.args.positions in
    as_values (L (to_z w64 (of_z w64 c.from.result))) c.args.first.now c.args.second.now
    (subst (λ number. L number c.args.first.now c.args.second.now) mark c.requires.low)

pub returns-then-not-are_plain : goal.returns-then-not-are_plain
returns-then-not-are_plain c =
    let same : c.from.result ≡ short.mark = cc in
    let mark : to_z w64 (of_z w64 c.from.result) ≡ short.mark = ap (λ z. to_z w64 (of_z w64 z)) same in
    let G : ℤ → List ℤ → List ℤ → Type 0 = λ number firsts seconds.
    IsGreatestOf (HasScaledSumAt number c.args.scales c.args.positions firsts seconds) c.greatest_scaled.result in
    from_values (G short.mark) c.args.first.now c.args.second.now
    (subst (λ number. G number (map (λ x. x) c.args.first.now) (map (λ x. x) c.args.second.now)) mark
    c.greatest_scaled.ensures)

pub returns-then-not-are_dense : goal.returns-then-not-are_dense
returns-then-not-are_dense c =
    let plain = c.are_plain.ensures.0 c.if-not-are_plain.false in
    let found = c.greatest_scattered.result in
    plain_greatest short c.args.scales plain.0 plain.1 c.args.first.now c.args.second.now c.args.positions found
    (from_values (λ firsts seconds. IsGreatestOf (HasSumAt short c.args.positions firsts seconds) found)
    c.args.first.now c.args.second.now c.greatest_scattered.ensures)

pub returns-then-positions-limits : goal.returns-then-positions-limits
returns-then-positions-limits c =
    let as_many : length c.args.first.now ≡ length c.args.positions.at.now = omega arith in
    let plain = c.are_plain.ensures.0 c.if-not-are_plain.false in
    let found = c.greatest_aligned.result in
    plain_greatest short c.args.scales plain.0 plain.1 c.args.first.now c.args.second.now c.args.positions found
    (aligned_positions c.args.positions c.args.first.now c.args.second.now c.requires.have c.requires.rising as_many short found
    (from_values (λ firsts seconds. IsGreatestOf (λ sum. (k : ℕ) × HasSum short firsts seconds k sum) found)
    c.args.first.now c.args.second.now c.greatest_aligned.ensures))

pub returns-else-positions-limits : goal.returns-else-positions-limits
returns-else-positions-limits c =
    let as_many : length c.args.first.now ≡ length c.args.limits.now = omega arith in
    let plain = c.are_plain.ensures.0 c.if-not-are_plain.false in
    plain_greatest short c.args.scales plain.0 plain.1 c.args.first.now c.args.second.now c.args.positions
    c.greatest_limited_short.result
    (limited_positions c.args.positions c.args.first.now c.args.second.now c.args.limits.now c.requires.have c.requires.limits
    as_many c.greatest_limited_short.result c.greatest_limited_short.ensures)
