use Rattle.std.proofs.Common.{ℕ, ◌+◌, ◌-◌, ◌<◌, ◌≤◌, ℤ, IfSome, ◌<ℤ◌, length, map, FitsSigned, w64, arith}
use Rattle.std.specs.List.{between}
use Rattle.std.proofs.lemmas.Int.{to_z-of_z}
use Rattle.score_numbers.specs.Sums.{HasSum}
use Rattle.score_numbers.proofs.FirstSums.{none_above, none_before, values_proper, values_sum}
use Rattle.score_numbers.proofs.first_sums.passed_aligned.Goals as goal

pub greatest_aligned-greatest-requires-clause-first : goal.greatest_aligned-greatest-requires-clause-first
greatest_aligned-greatest-requires-clause-first g c =
    values_proper g.N.Number.width g.N.Number.value c.loop-passed.passed (c.loop-passed.passed + 32) c.args.first.now (omega (arith, c.loop-passed-test.true)) c.requires.first

pub greatest_aligned-greatest-requires-clause-second : goal.greatest_aligned-greatest-requires-clause-second
greatest_aligned-greatest-requires-clause-second g c =
    values_proper g.N.Number.width g.N.Number.value c.loop-passed.passed (c.loop-passed.passed + 32) c.args.second.now (omega (arith, c.loop-passed-test.true, c.requires.as_many)) c.requires.second

pub returns-then-not-are_less-clause-none : goal.returns-then-not-are_less-clause-none
returns-then-not-are_less-clause-none g c =
    let fits_sum : FitsSigned w64 c.args.sum = c.ranges.sum in
    simp to_z-of_z at c.loop-passed.invariant.1

pub loop-passed-preserved : goal.loop-passed-preserved
loop-passed-preserved g c =
    let width = g.N.Number.width in
    let value = g.N.Number.value in
    let passed = c.loop-passed.passed in
    let end = passed + 32 in
    let firsts = c.args.first.now in
    let seconds = c.args.second.now in
    let sum = c.args.sum in
    let fits_sum : FitsSigned w64 c.args.sum = c.ranges.sum in
    let within : end ≤ length firsts = omega (arith, c.loop-passed-test.true) in
    let within' : end ≤ length seconds = omega (arith, c.loop-passed-test.true, c.requires.as_many) in
    let Holds : ℕ → Type 0 = λ k. HasSum width (map value firsts) (map value seconds) k sum in
    let Block : ℤ → Type 0 = λ number. (k : ℕ) × HasSum width (map value (between passed end firsts)) (map value (between passed end seconds)) k number in
    let none : (k : ℕ) → k < passed → Holds k → ⊥ = simp to_z-of_z at c.loop-passed.invariant.1 in
    let less : IfSome c.greatest_aligned-greatest.result (λ greatest. greatest <ℤ sum) = simp to_z-of_z at (c.are_less.ensures c.if-not-are_less.false) in
    simp to_z-of_z
    ((
      within,
      none_before Holds passed end none
          (λ k l m it. none_above Block c.greatest_aligned-greatest.result sum c.greatest_aligned-greatest.ensures less
          (k - passed, values_sum width value passed end firsts seconds within within' k sum l m it)),
    ))

pub returns-clause-none : goal.returns-clause-none
returns-clause-none g c =
    let fits_sum : FitsSigned w64 c.args.sum = c.ranges.sum in
    simp to_z-of_z at c.loop-passed.invariant.1
