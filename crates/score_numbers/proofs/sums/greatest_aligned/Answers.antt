use Rattle.std.proofs.Common.{◌≡◌, ℕ, ◌+◌, [], ◌∷◌, ◌++◌, ◌+ℤ◌, Some, length, map, slice_get, refl, sym, subst, arith, length-append}
use Rattle.std.specs.Int.{int_max}
use Rattle.std.proofs.lemmas.List.{length-map}
use Rattle.std.proofs.lemmas.Option.{slice_get_read}
use Rattle.std.proofs.lemmas.Slice.Zip.{zip_turn, zip_end}
use Rattle.score_numbers.specs.Sums.{HasSum}
use Rattle.score_numbers.specs.Spaced.{least_sum}
use Rattle.score_numbers.proofs.Greatest.{HasBefore}
use Rattle.score_numbers.proofs.LargestSums.{IsLargest, all_aligned, largest_sum, sum_more, value_there}
use Rattle.score_numbers.proofs.sums.greatest_aligned.Goals as goal

pub plus-requires-clause-first : goal.plus-requires-clause-first
plus-requires-clause-first g c =
    let firsts = c.args.first.now in
    let at = length c.loop-a.yielded in
    let turn = zip_turn c.args.first.now c.args.second.now c.loop-a.yielded c.into_iter-a-iterator.result
    c.loop-a.a-iterator c.next.new.self c.next.result (cc) (cc) c.loop-a.yielded_by _ c.in-Some.is c.next.ensures.steps in
    let a = c.in-Some.a.now in
    c.requires.first at (g.N.Number.value a)
    (value_there g.N.Number.value firsts at a (slice_get_read firsts (length firsts) at a refl turn.0 (turn.2 a)))

pub plus-requires-clause-second : goal.plus-requires-clause-second
plus-requires-clause-second g c =
    let seconds = c.args.second.now in
    let at = length c.loop-a.yielded in
    let turn = zip_turn c.args.first.now c.args.second.now c.loop-a.yielded c.into_iter-a-iterator.result
    c.loop-a.a-iterator c.next.new.self c.next.result (cc) (cc) c.loop-a.yielded_by _ c.in-Some.is c.next.ensures.steps in
    let b = c.in-Some.b.now in
    c.requires.second at (g.N.Number.value b)
    (value_there g.N.Number.value seconds at b (slice_get_read seconds (length seconds) at b refl turn.1 (turn.3 b)))

pub loop-a-preserved : goal.loop-a-preserved
loop-a-preserved g c =
    let width = g.N.Number.width in
    let value = g.N.Number.value in
    let firsts = c.args.first.now in
    let seconds = c.args.second.now in
    let at = length c.loop-a.yielded in
    let turn = zip_turn c.args.first.now c.args.second.now c.loop-a.yielded c.into_iter-a-iterator.result
    c.loop-a.a-iterator c.next.new.self c.next.result (cc) (cc) c.loop-a.yielded_by _ c.in-Some.is c.next.ensures.steps in
    let a = c.in-Some.a.now in
    let b = c.in-Some.b.now in
    let there : slice_get (map value firsts) at ≡ Some (value a) =
    value_there value firsts at a (slice_get_read firsts (length firsts) at a refl turn.0 (turn.2 a)) in
    let behind : slice_get (map value seconds) at ≡ Some (value b) =
    value_there value seconds at b (slice_get_read seconds (length seconds) at b refl turn.1 (turn.3 b)) in
    let old = value c.loop-a.greatest in
    let new = value c.most-greatest.result in
    let max : new ≡ int_max old (value a +ℤ value b) =
    subst (λ sum. new ≡ int_max old sum) c.plus.ensures c.most-greatest.ensures in
    let more : at + 1 ≡ length (c.loop-a.yielded ++ (c.in-Some.a, c.in-Some.b) ∷ []) =
    sym (length-append c.loop-a.yielded ((c.in-Some.a, c.in-Some.b) ∷ [])) in
    subst (λ n. IsLargest (least_sum width) (HasBefore (HasSum width (map value firsts) (map value seconds)) n) new) more
    (sum_more width c.is_spaced.ensures (map value firsts) (map value seconds) (λ k. k) at old new (value a) (value b) max
    there behind (c.requires.first at (value a) there) (c.requires.second at (value b) behind) c.loop-a.invariant)

pub returns : goal.returns
returns g c =
    let width = g.N.Number.width in
    let firsts = map g.N.Number.value c.args.first.now in
    let seconds = map g.N.Number.value c.args.second.now in
    let end = zip_end c.args.first.now c.args.second.now c.loop-a.yielded c.into_iter-a-iterator.result
    c.loop-a.a-iterator c.next.new.self c.next.result (cc) (cc) c.loop-a.yielded_by c.in-None.is c.next.ensures.steps in
    let count = length-map c.args.first.now g.N.Number.value in
    let count' = length-map c.args.second.now g.N.Number.value in
    largest_sum (least_sum width) (λ sum. (k : ℕ) × HasSum width firsts seconds k sum)
    (g.N.Number.value c.loop-a.greatest) c.sum_of.result c.sum_of.ensures
    (all_aligned width firsts seconds (length c.loop-a.yielded) (g.N.Number.value c.loop-a.greatest)
    (λ k l m. omega (arith, end, count, count')) c.loop-a.invariant)
