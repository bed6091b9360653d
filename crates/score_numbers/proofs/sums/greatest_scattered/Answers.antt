use Rattle.std.proofs.Common.{◌≡◌, ℕ, ℤ, ◌+ℤ◌, Some, length, map, get_or, slice_get, refl, sym, subst, arith}
use Rattle.std.specs.Int.{int_max}
use Rattle.std.proofs.lemmas.List.Elements.{Contains-get_or}
use Rattle.score_numbers.specs.Sums.{HasSum, HasSumAt, number_at}
use Rattle.score_numbers.specs.Spaced.{least_sum}
use Rattle.score_numbers.proofs.Greatest.{HasBefore}
use Rattle.score_numbers.proofs.LargestSums.{AtPosition, IsLargest, all_scattered, below_values, largest_sum, none_yet, read_number, sum_more, upto_values}
use Rattle.score_numbers.proofs.sums.greatest_scattered.Goals as goal

pub loop-position-init : goal.loop-position-init
loop-position-init g c =
    let width = g.N.Number.width in
    let Sum : ℕ → ℤ → Type 0 = HasSum width (map g.N.Number.value c.args.first.now) (map g.N.Number.value c.args.second.now) in
    subst (IsLargest (least_sum width) (HasBefore (AtPosition c.args.positions Sum) 0)) (sym c.mark-greatest.ensures)
    (none_yet width c.is_spaced.ensures (AtPosition c.args.positions Sum))

pub overflow_sub-number : goal.overflow_sub-number
overflow_sub-number g c =
    let index = c.loop-position.position-index in
    c.requires.have.from_first (get_or c.args.positions.at.now index 0)
    (Contains-get_or c.args.positions.at.now index 0 c.loop-position-test.true)

pub offset_bounds-first-number : goal.offset_bounds-first-number
offset_bounds-first-number g c =
    let position = get_or c.args.positions.at.now c.loop-position.position-index 0 in
    let stands = Contains-get_or c.args.positions.at.now c.loop-position.position-index 0 c.loop-position-test.true in
    upto_values g.N.Number.value c.args.first.now (number_at c.args.positions position) (c.requires.have.before position stands)

pub offset_bounds-second-number : goal.offset_bounds-second-number
offset_bounds-second-number g c =
    let position = get_or c.args.positions.at.now c.loop-position.position-index 0 in
    let stands = Contains-get_or c.args.positions.at.now c.loop-position.position-index 0 c.loop-position-test.true in
    upto_values g.N.Number.value c.args.second.now (number_at c.args.positions position) (c.requires.have.behind position stands)

pub bounds-first-number : goal.bounds-first-number
bounds-first-number g c =
    let position = get_or c.args.positions.at.now c.loop-position.position-index 0 in
    let stands = Contains-get_or c.args.positions.at.now c.loop-position.position-index 0 c.loop-position-test.true in
    below_values g.N.Number.value c.args.first.now (number_at c.args.positions position) (c.requires.have.before position stands)

pub bounds-second-number : goal.bounds-second-number
bounds-second-number g c =
    let position = get_or c.args.positions.at.now c.loop-position.position-index 0 in
    let stands = Contains-get_or c.args.positions.at.now c.loop-position.position-index 0 c.loop-position-test.true in
    below_values g.N.Number.value c.args.second.now (number_at c.args.positions position) (c.requires.have.behind position stands)

pub plus-requires-clause-first : goal.plus-requires-clause-first
plus-requires-clause-first g c =
    let positions = c.args.positions in
    let index = c.loop-position.position-index in
    let position = get_or positions.at.now index 0 in
    let stands = Contains-get_or positions.at.now index 0 c.loop-position-test.true in
    let number = number_at positions position in
    c.requires.first number (g.N.Number.value c.index-first-number.result)
    (read_number g.N.Number.value c.args.first.now number c.index-first-number.result
    (g.N.Number.value c.index-first-number.result) (c.requires.have.before position stands) c.index-first-number.is refl)

pub plus-requires-clause-second : goal.plus-requires-clause-second
plus-requires-clause-second g c =
    let positions = c.args.positions in
    let index = c.loop-position.position-index in
    let position = get_or positions.at.now index 0 in
    let stands = Contains-get_or positions.at.now index 0 c.loop-position-test.true in
    let number = number_at positions position in
    c.requires.second number (g.N.Number.value c.index-second-number.result)
    (read_number g.N.Number.value c.args.second.now number c.index-second-number.result
    (g.N.Number.value c.index-second-number.result) (c.requires.have.behind position stands) c.index-second-number.is refl)

pub loop-position-preserved : goal.loop-position-preserved
loop-position-preserved g c =
    let width = g.N.Number.width in
    let value = g.N.Number.value in
    let positions = c.args.positions in
    let index = c.loop-position.position-index in
    let position = get_or positions.at.now index 0 in
    let stands = Contains-get_or positions.at.now index 0 c.loop-position-test.true in
    let number = number_at positions position in
    let firsts = map value c.args.first.now in
    let seconds = map value c.args.second.now in
    let a = value c.index-first-number.result in
    let b = value c.index-second-number.result in
    let there : slice_get firsts number ≡ Some a =
    read_number g.N.Number.value c.args.first.now number c.index-first-number.result
    (g.N.Number.value c.index-first-number.result) (c.requires.have.before position stands) c.index-first-number.is refl in
    let behind : slice_get seconds number ≡ Some b =
    read_number g.N.Number.value c.args.second.now number c.index-second-number.result
    (g.N.Number.value c.index-second-number.result) (c.requires.have.behind position stands) c.index-second-number.is refl in
    let old = value c.loop-position.greatest in
    let new = value c.most-greatest.result in
    let max : new ≡ int_max old (a +ℤ b) =
    subst (λ sum. new ≡ int_max old sum) c.plus.ensures c.most-greatest.ensures in
    sum_more width c.is_spaced.ensures firsts seconds (λ k. number_at positions (get_or positions.at.now k 0)) index old new a
    b max there behind (c.requires.first number a there) (c.requires.second number b behind) c.loop-position.invariant

pub returns : goal.returns
returns g c =
    let width = g.N.Number.width in
    let firsts = map g.N.Number.value c.args.first.now in
    let seconds = map g.N.Number.value c.args.second.now in
    let greatest = g.N.Number.value c.loop-position.greatest in
    let index = c.loop-position.position-index in
    let all : index ≡ length c.args.positions.at.now =
    omega (arith, c.loop-position-test.false, c.loop-position.auto.position-index-end) in
    largest_sum (least_sum width) (HasSumAt width c.args.positions firsts seconds) greatest c.sum_of.result c.sum_of.ensures
    (all_scattered c.args.positions (HasSum width firsts seconds) (least_sum width) index greatest all c.loop-position.invariant)
