use Rattle.std.proofs.Common.{◌≡◌, ℕ, ◌+◌, ℤ, List, length, map, w64, to_z, of_z, sym, ap, subst, FitsSigned, arith}
use Rattle.std.specs.List.{Contains}
use Rattle.std.proofs.lemmas.Int.{to_z-of_z}
use Rattle.score_numbers.specs.FirstPositions.{IsFirstAmong, IsFirstOf}
use Rattle.score_numbers.specs.Packing.{short}
use Rattle.score_numbers.specs.Sums.{AreLowSums, HasScaledSum, HaveNumbers, IsUnlimitedSum, number_at}
use Rattle.score_numbers.proofs.FirstFound.{below_last}
use Rattle.score_numbers.proofs.FirstSums.{first_limited, none_limited}
use Rattle.score_numbers.proofs.LargestSums.{as_values, from_values, unlimited_stands}
use Rattle.score_numbers.proofs.first_sums.first_short.Goals as goal
use Rattle.score_numbers.proofs.first_sums.first_short.Goals.{In-Some}

pub first_scaled-requires-clause-rising : goal.first_scaled-requires-clause-rising
first_scaled-requires-clause-rising c = c.requires.rising

pub passed_limited-passed-requires-clause-first : goal.passed_limited-passed-requires-clause-first
passed_limited-passed-requires-clause-first c = c.requires.first

pub passed_limited-passed-requires-clause-second : goal.passed_limited-passed-requires-clause-second
passed_limited-passed-requires-clause-second c = c.requires.second

pub passed_limited-passed-requires-clause-limits : goal.passed_limited-passed-requires-clause-limits
passed_limited-passed-requires-clause-limits c = c.requires.limits.proper

pub first_limited-requires-clause-first : goal.first_limited-requires-clause-first
first_limited-requires-clause-first c = c.requires.first

pub first_limited-requires-clause-second : goal.first_limited-requires-clause-second
first_limited-requires-clause-second c = c.requires.second

pub first_limited-requires-clause-limits : goal.first_limited-requires-clause-limits
first_limited-requires-clause-limits c = c.requires.limits.proper

pub first_scaled-requires-clause-have : goal.first_scaled-requires-clause-have
first_scaled-requires-clause-have c = as_values (HaveNumbers c.args.positions) c.args.first.now c.args.second.now c.requires.have

pub passed_limited-passed-requires-clause-as_many : goal.passed_limited-passed-requires-clause-as_many
passed_limited-passed-requires-clause-as_many c = (c.are_dense.ensures.0 c.if-not-are_dense.false).0

pub passed_limited-passed-requires-clause-as_many_behind : goal.passed_limited-passed-requires-clause-as_many_behind
passed_limited-passed-requires-clause-as_many_behind c = (c.are_dense.ensures.0 c.if-not-are_dense.false).1

pub first_limited-requires-clause-as_many : goal.first_limited-requires-clause-as_many
first_limited-requires-clause-as_many c = (c.are_dense.ensures.0 c.if-not-are_dense.false).0

pub first_limited-requires-clause-as_many_behind : goal.first_limited-requires-clause-as_many_behind
first_limited-requires-clause-as_many_behind c = (c.are_dense.ensures.0 c.if-not-are_dense.false).1

pub first_limited-requires-clause-passed : goal.first_limited-requires-clause-passed
first_limited-requires-clause-passed c = c.passed_limited-passed.ensures.none

pub first_scaled-requires-clause-low : goal.first_scaled-requires-clause-low
first_scaled-requires-clause-low c =
    let same : c.from.result ≡ short.mark = cc in
    let mark : short.mark ≡ to_z w64 (of_z w64 c.from.result) = ap (λ z. to_z w64 (of_z w64 z)) (sym same) in
    let L : ℤ → List ℤ → List ℤ → Type 0 = λ number. AreLowSums number c.args.scales c.args.positions in
    as_values (L (to_z w64 (of_z w64 c.from.result))) c.args.first.now c.args.second.now
    (subst (λ number. L number c.args.first.now c.args.second.now) mark c.requires.low)

pub returns-then-not-are_plain : goal.returns-then-not-are_plain
returns-then-not-are_plain c =
    let same : c.from.result ≡ short.mark = cc in
    let mark : to_z w64 (of_z w64 c.from.result) ≡ short.mark = ap (λ z. to_z w64 (of_z w64 z)) same in
    let fits_sum : FitsSigned w64 c.args.sum = c.ranges.sum in
    let F : ℤ → ℤ → List ℤ → List ℤ → Type 0 = λ mark sum firsts seconds. IsFirstOf c.args.positions.at.now (λ position. HasScaledSum mark c.args.scales firsts seconds (number_at c.args.positions position) sum) c.first_scaled.result in
    from_values (F short.mark c.args.sum) c.args.first.now c.args.second.now
    (subst (λ sum. F short.mark sum (map (λ x. x) c.args.first.now) (map (λ x. x) c.args.second.now)) (to_z-of_z w64 c.args.sum fits_sum)
    (subst (λ mark. F mark (to_z w64 (of_z w64 c.args.sum)) (map (λ x. x) c.args.first.now) (map (λ x. x) c.args.second.now)) mark c.first_scaled.ensures))

pub returns-in_default : goal.returns-in_default
returns-in_default c =
    let plain = c.are_plain.ensures.0 c.if-not-are_plain.false in
    let as_many : length c.args.first.now ≡ length c.args.limits.now = (c.are_dense.ensures.0 c.if-not-are_dense.false).0 in
    let fits_sum : FitsSigned w64 c.args.sum = c.ranges.sum in
    let none : (k : ℕ) → IsUnlimitedSum c.args.limits.now c.args.first.now c.args.second.now k c.args.sum → ⊥ = simp to_z-of_z at c.in_default.ensures in
    none_limited c.args.positions c.args.scales plain.0 plain.1 c.args.first.now c.args.second.now c.requires.have c.args.limits.now c.requires.limits as_many c.args.sum none

pub returns : goal.returns
returns c =
    let plain = c.are_plain.ensures.0 c.if-not-are_plain.false in
    let as_many : length c.args.first.now ≡ length c.args.limits.now = (c.are_dense.ensures.0 c.if-not-are_dense.false).0 in
    let fits_sum : FitsSigned w64 c.args.sum = c.ranges.sum in
    let found = c.in-Some.ensures in
    subst (IsFirstAmong c.args.positions.at.now (λ position. HasScaledSum short.mark c.args.scales c.args.first.now c.args.second.now (number_at c.args.positions position) c.args.sum)) (sym c.position_of.ensures)
    (first_limited c.args.positions c.args.scales plain.0 plain.1 c.args.first.now c.args.second.now c.requires.have c.args.limits.now c.requires.limits as_many c.args.sum c.in-Some.number (simp to_z-of_z at found.0) (simp to_z-of_z at found.1))

stands : (c : In-Some) → Contains c.args.positions.at.now (c.args.positions.first + c.in-Some.number)
stands c =
    let as_many : length c.args.first.now ≡ length c.args.limits.now = (c.are_dense.ensures.0 c.if-not-are_dense.false).0 in
    unlimited_stands c.args.positions c.args.first.now c.args.second.now c.args.limits.now c.requires.have c.requires.limits as_many c.in-Some.number c.in-Some.ensures.0.0

pub overflow_sub-last : goal.overflow_sub-last
overflow_sub-last c = omega (arith, (stands (goal.at.overflow_sub-last c).In-Some).1)

pub position_of-requires : goal.position_of-requires
position_of-requires c = below_last c.args.positions.at.now c.requires.rising (c.args.positions.first + c.in-Some.number) (stands (goal.at.position_of-requires c).In-Some)
