use Rattle.std.proofs.Common.{ℕ, ◌+◌, ◌-◌, ◌<◌, ◌≤◌, ◌≡◌, ℤ, List, IfSome, ◌<ℤ◌, length, FitsSigned, w64, sym, ◌∙◌, arith}
use Rattle.std.specs.List.{between}
use Rattle.std.proofs.lemmas.Int.{to_z-of_z}
use Rattle.std.proofs.lemmas.List.Edits.{length-between}
use Rattle.score_numbers.specs.Limits.{AreLimits, no_limit}
use Rattle.score_numbers.specs.Packing.{short}
use Rattle.score_numbers.specs.Sums.{HasUnlimitedSum, IsUnlimitedSum}
use Rattle.score_numbers.proofs.FirstSums.{block_proper, block_sum, from_block, in_block, none_above, none_before}
use Rattle.score_numbers.proofs.first_sums.passed_limited.Goals as goal

block_limits : (limits : List ℤ) (from to : ℕ) → to ≤ length limits → AreLimits limits → AreLimits (between from to limits)
block_limits limits from to within are k limit there = are (from + k) limit (from_block limits from to within k limit there)

as_many : (ones others : List ℤ) (from to : ℕ) → to ≤ length others → length ones ≡ length others → length (between from to ones) ≡ length (between from to others)
as_many ones others from to within same = length-between ones from to (omega (arith, within, same)) ∙ sym (length-between others from to within)

pub greatest_limited_short-greatest-requires-clause-first : goal.greatest_limited_short-greatest-requires-clause-first
greatest_limited_short-greatest-requires-clause-first c =
    block_proper short c.args.first.now c.loop-passed.passed (c.loop-passed.passed + 32) (omega (arith, c.loop-passed-test.true, c.requires.as_many)) c.requires.first

pub greatest_limited_short-greatest-requires-clause-second : goal.greatest_limited_short-greatest-requires-clause-second
greatest_limited_short-greatest-requires-clause-second c =
    block_proper short c.args.second.now c.loop-passed.passed (c.loop-passed.passed + 32) (omega (arith, c.loop-passed-test.true, c.requires.as_many_behind)) c.requires.second

pub greatest_limited_short-greatest-requires-clause-limits : goal.greatest_limited_short-greatest-requires-clause-limits
greatest_limited_short-greatest-requires-clause-limits c =
    block_limits c.args.limits.now c.loop-passed.passed (c.loop-passed.passed + 32) (omega (arith, c.loop-passed-test.true)) c.requires.limits

pub greatest_limited_short-greatest-requires-clause-as_many : goal.greatest_limited_short-greatest-requires-clause-as_many
greatest_limited_short-greatest-requires-clause-as_many c =
    as_many c.args.first.now c.args.limits.now c.loop-passed.passed (c.loop-passed.passed + 32) (omega (arith, c.loop-passed-test.true)) c.requires.as_many

pub greatest_limited_short-greatest-requires-clause-as_many_behind : goal.greatest_limited_short-greatest-requires-clause-as_many_behind
greatest_limited_short-greatest-requires-clause-as_many_behind c =
    as_many c.args.second.now c.args.limits.now c.loop-passed.passed (c.loop-passed.passed + 32) (omega (arith, c.loop-passed-test.true)) c.requires.as_many_behind

pub returns-then-not-are_less-clause-none : goal.returns-then-not-are_less-clause-none
returns-then-not-are_less-clause-none c =
    let fits_sum : FitsSigned w64 c.args.sum = c.ranges.sum in
    simp to_z-of_z at c.loop-passed.invariant.1

pub returns-clause-none : goal.returns-clause-none
returns-clause-none c =
    let fits_sum : FitsSigned w64 c.args.sum = c.ranges.sum in
    simp to_z-of_z at c.loop-passed.invariant.1

pub loop-passed-preserved : goal.loop-passed-preserved
loop-passed-preserved c =
    let passed = c.loop-passed.passed in
    let end = passed + 32 in
    let firsts = c.args.first.now in
    let seconds = c.args.second.now in
    let limits = c.args.limits.now in
    let sum = c.args.sum in
    let fits_sum : FitsSigned w64 c.args.sum = c.ranges.sum in
    let within : end ≤ length limits = omega (arith, c.loop-passed-test.true) in
    let within_first : end ≤ length firsts = omega (arith, within, c.requires.as_many) in
    let within_second : end ≤ length seconds = omega (arith, within, c.requires.as_many_behind) in
    let Holds : ℕ → Type 0 = λ k. IsUnlimitedSum limits firsts seconds k sum in
    let Block : ℤ → Type 0 = HasUnlimitedSum (between passed end limits) (between passed end firsts) (between passed end seconds) in
    let none : (k : ℕ) → k < passed → Holds k → ⊥ = simp to_z-of_z at c.loop-passed.invariant.1 in
    let less : IfSome c.greatest_limited_short-greatest.result (λ greatest. greatest <ℤ sum) = simp to_z-of_z at (c.are_less.ensures c.if-not-are_less.false) in
    simp to_z-of_z
    ((
      within,
      none_before Holds passed end none
          (λ k l m it. none_above Block c.greatest_limited_short-greatest.result sum c.greatest_limited_short-greatest.ensures less
          (k - passed, (in_block limits passed end within k no_limit l m it.0, block_sum short firsts seconds passed end within_first within_second k sum l m it.1))),
    ))
