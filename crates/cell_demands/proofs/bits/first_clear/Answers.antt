use Rattle.std.proofs.Common.{◌≡◌, ◌+◌, ◌*◌, ◌/◌, inl, inr, subst, arith, rules}
use Rattle.std.proofs.lemmas.Bool.{cases_lt}
use Rattle.cell_demands.specs.PlaceBits.{HasBit}
use Rattle.cell_demands.proofs.PlaceBits.{clear_there, set_there}
use Rattle.cell_demands.proofs.bits.first_clear.Goals as goal

pub returns-in-Some-clause-clear : goal.returns-in-Some-clause-clear
returns-in-Some-clause-clear c = λ before has.
    let found = c.in-Some.ensures in
    let at : c.min.result ≡ c.in-Some.found = omega (arith, before, c.min.ensures) in
    clear_there c.args.bits.now c.loop-place.place c.word_at.result c.in-Some.found c.word_at.ensures
    found.set.1.number_is (search rules) found.set (subst (HasBit c.args.bits.now) at has)

pub returns-in-Some-clause-set_before : goal.returns-in-Some-clause-set_before
returns-in-Some-clause-set_before c = λ other from before.
    let place = c.loop-place.place in
    let found = c.in-Some.ensures in
    elim (cases_lt other place) [
      | inl early ↦ c.loop-place.invariant.set other from early
      | inr late ↦
          set_there c.args.bits.now place c.word_at.result other c.word_at.ensures
          (omega (arith, late, before, c.min.ensures, found.set.0, found.set.1.number_is)) (search rules) late
          (λ clear. omega (arith, found.first other clear, before, c.min.ensures))
    ]

pub loop-place-preserved : goal.loop-place-preserved
loop-place-preserved c =
    let place = c.loop-place.place in
    let next = (place / 64 + 1) * 64 in
    record {
      from_first = omega (arith, c.loop-place.invariant.from_first);
      set = λ other from before. elim (cases_lt other place) [
        | inl early ↦ c.loop-place.invariant.set other from early
        | inr late ↦
            set_there c.args.bits.now place c.word_at.result other c.word_at.ensures
            (omega (arith, late, before)) (search rules) late (c.in_default.ensures other)
      ];
    }
