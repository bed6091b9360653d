use Rattle.std.proofs.Common.{◌+◌, ◌*◌, ◌/◌, ◌<◌, ◌≡◌, ℕ, inl, inr, sym, subst, arith}
use Rattle.std.proofs.lemmas.Bool.{cases_lt}
use Rattle.cell_demands.specs.PlaceBits.{HasBit}
use Rattle.cell_demands.proofs.PlaceBits.{ahead_in_both, in_both}
use Rattle.cell_demands.proofs.bits.first_in_both.Goals as goal

pub returns-in-Some-clause-set : goal.returns-in-Some-clause-set
returns-in-Some-clause-set c = λ before.
    let same : c.in-Some.found ≡ c.min.result = omega (arith, before, c.min.ensures) in
    subst (HasBit c.args.bits.now) same
    (in_both c.args.bits.now c.args.others.now c.loop-place.place c.word_at.result c.word_at-in-loop-place.result c.word_at.ensures
    c.word_at-in-loop-place.ensures c.in-Some.found c.in-Some.ensures.set).0

pub returns-in-Some-clause-none_before : goal.returns-in-Some-clause-none_before
returns-in-Some-clause-none_before c = λ place low high has other_has. elim (cases_lt place c.loop-place.place) [
  | inl early ↦ c.loop-place.invariant.none place low early has other_has
  | inr late ↦
      let number = c.in-Some.ensures.set.1.number_is in
      let same : place / 64 ≡ c.loop-place.place / 64 = omega (arith, late, high, number, c.min.ensures) in
      let ahead = ahead_in_both c.args.bits.now c.args.others.now c.loop-place.place c.word_at.result c.word_at-in-loop-place.result
      c.word_at.ensures c.word_at-in-loop-place.ensures place late same has other_has in
      let first = c.in-Some.ensures.first place ahead in
      omega (arith, first, high, c.min.ensures)
]

pub loop-place-preserved : goal.loop-place-preserved
loop-place-preserved c = record {
  from_first = omega (arith, c.loop-place.invariant.from_first);
  none = λ other low high has other_has. elim (cases_lt other c.loop-place.place) [
    | inl early ↦ c.loop-place.invariant.none other low early has other_has
    | inr late ↦
        let same : other / 64 ≡ c.loop-place.place / 64 = omega (arith, late, high) in
        c.in_default.ensures other (ahead_in_both c.args.bits.now c.args.others.now c.loop-place.place c.word_at.result
        c.word_at-in-loop-place.result c.word_at.ensures c.word_at-in-loop-place.ensures other late same has other_has)
  ];
}
