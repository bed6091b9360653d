use Rattle.std.proofs.Common.{◌≡◌, ℕ, ◌<◌, ℤ, pos, Some, get_or, slice_get, FitsSigned, w16, w64, to_z, of_z, arith, below_more}
use Rattle.std.specs.Bool.{Decides}
use Rattle.std.proofs.lemmas.Int.{to_z-of_z}
use Rattle.std.proofs.lemmas.Option.{slice_get-get_or}
use Rattle.score_numbers.specs.Packing.{IsProper, short}
use Rattle.score_numbers.specs.Sums.{IsUnlimitedSum}
use Rattle.score_numbers.proofs.FirstSums.{made_unlimited}
use Rattle.score_numbers.proofs.LargestSums.{limit_fits, short_fits, some_position}
use Rattle.score_numbers.proofs.first_sums.first_limited.Goals as goal
use Rattle.score_numbers.proofs.first_sums.first_limited.Goals.{After-make}

tested : (c : After-make) → Decides c.make.result (IsUnlimitedSum c.args.limits.now c.args.first.now c.args.second.now c.loop-k.k c.args.sum)
tested c =
    let at = c.loop-k.k in
    let limit = get_or c.args.limits.now at (pos 0) in
    let a = get_or c.args.first.now at (pos 0) in
    let b = get_or c.args.second.now at (pos 0) in
    let limited : slice_get c.args.limits.now at ≡ Some limit = slice_get-get_or c.args.limits.now at (pos 0) c.loop-k-test.true in
    let there : slice_get c.args.first.now at ≡ Some a = slice_get-get_or c.args.first.now at (pos 0) (omega (arith, c.loop-k-test.true, c.requires.as_many)) in
    let behind : slice_get c.args.second.now at ≡ Some b = slice_get-get_or c.args.second.now at (pos 0) (omega (arith, c.loop-k-test.true, c.requires.as_many_behind)) in
    let fits_limit : FitsSigned w16 limit = limit_fits limit (c.requires.limits at limit limited) in
    let fits_a : FitsSigned w16 a = short_fits a (c.requires.first at a there) in
    let fits_b : FitsSigned w16 b = short_fits b (c.requires.second at b behind) in
    let fits_sum : FitsSigned w64 c.args.sum = c.ranges.sum in
    made_unlimited c.args.limits.now c.args.first.now c.args.second.now at limit a b c.args.sum limited there behind c.make.result
    (simp to_z-of_z at c.make.ensures)

pub loop-k-init : goal.loop-k-init
loop-k-init c =
    let fits_sum : FitsSigned w64 c.args.sum = c.ranges.sum in
    simp to_z-of_z c.requires.passed

pub bounds-first-k : goal.bounds-first-k
bounds-first-k c = omega (arith, c.loop-k-test.true, c.requires.as_many)

pub bounds-second-k : goal.bounds-second-k
bounds-second-k c = omega (arith, c.loop-k-test.true, c.requires.as_many_behind)

proper_bits : (a : ℤ) → IsProper short a → IsProper short (to_z w16 (of_z w16 a))
proper_bits a proper = let fits = short_fits a proper in simp to_z-of_z proper

pub make-requires-clause-first : goal.make-requires-clause-first
make-requires-clause-first c =
    let a = get_or c.args.first.now c.loop-k.k (pos 0) in
    let there : slice_get c.args.first.now c.loop-k.k ≡ Some a = slice_get-get_or c.args.first.now c.loop-k.k (pos 0) (omega (arith, c.loop-k-test.true, c.requires.as_many)) in
    proper_bits a (c.requires.first c.loop-k.k a there)

pub make-requires-clause-second : goal.make-requires-clause-second
make-requires-clause-second c =
    let b = get_or c.args.second.now c.loop-k.k (pos 0) in
    let there : slice_get c.args.second.now c.loop-k.k ≡ Some b = slice_get-get_or c.args.second.now c.loop-k.k (pos 0) (omega (arith, c.loop-k-test.true, c.requires.as_many_behind)) in
    proper_bits b (c.requires.second c.loop-k.k b there)

pub returns-then-make : goal.returns-then-make
returns-then-make c =
    let at = (goal.at.returns-then-make c).After-make in
    let fits_sum : FitsSigned w64 c.args.sum = c.ranges.sum in
    ((tested at).0 c.if-make.true, simp to_z-of_z at c.loop-k.invariant)

pub loop-k-preserved : goal.loop-k-preserved
loop-k-preserved c =
    let at = (goal.at.loop-k-preserved c).After-make in
    let fits_sum : FitsSigned w64 c.args.sum = c.ranges.sum in
    below_more _ _ c.loop-k.invariant
    (simp to_z-of_z (λ it. absurd (let yes = (tested at).1 it in let no = c.if-make.false in cc)))

pub returns : goal.returns
returns c = λ k it.
    let fits_sum : FitsSigned w64 c.args.sum = c.ranges.sum in
    let N : ℤ → Type 0 = λ sum. (k : ℕ) → k < c.loop-k.k → IsUnlimitedSum c.args.limits.now c.args.first.now c.args.second.now k sum → ⊥ in
    let none : N c.args.sum = simp to_z-of_z at c.loop-k.invariant in
    let within = some_position c.args.limits.now k _ it.0 in
    none k (omega (arith, within, c.loop-k-test.false)) it
