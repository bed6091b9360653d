use Rattle.std.proofs.Common.{◌≡◌, ◌+◌, ◌-◌, ◌<◌, min, length, drop, slice_index_or, sym, ap, subst, ◌∙◌, arith}
use Rattle.std.proofs.lemmas.List.{get_or_read, drop_all}
use Rattle.adp_model.specs.LimitFaults.{told}
use Rattle.grammar_check.specs.declared.part.Worth.TheVariants.{OfLetters}
use Rattle.grammar_check.specs.Plans.{lows, rooms, spread, part_at}
use Rattle.grammar_check.specs.Alternatives.{AreSpread}
use Rattle.grammar_check.proofs.Sweeps.{IsSweeping, low_at, rooms_at, sweep_begun, sweep_step, swept, swept_best, none_spread, low_is}
use Rattle.grammar_check.proofs.Kept.{kept_too_short, kept_too_long, kept_of_ways}
use Rattle.grammar_check.proofs.linear_alternative.LinearAlternative.sweep.Goals as goal

pub loop-place-init : goal.loop-place-init
loop-place-init c =
    let before = c.args.self.now in
    let past = drop_all c.len-place.result before.parts.items (omega (arith, c.len-place.ensures, before.parts.ok.0)) in
    record {
      sweeping = sweep_begun c.args.bounds.now (c.args.len - before.fixed) (c.args.len - before.low) before c.len-place.result (omega (arith, c.len-place.ensures, before.parts.ok.0));
      rest_room = omega (arith, ap rooms past);
    }

pub best_spread-best-requires-clause-within : goal.best_spread-best-requires-clause-within
best_spread-best-requires-clause-within c =
    let before = c.args.self.now in
    let same = c.loop-place.invariant.sweeping.parts in
    let low = low_is before.fixed before.parts.items before.low c.args.len before.least c.if-len-self.false c.requires.short in
    let inside : c.loop-place.place - 1 < length before.parts.items = omega (arith, c.len-place.ensures, before.parts.ok.0) in
    let least = low_at before.parts.items (c.loop-place.place - 1) inside in
    subst (λ ps. (part_at ps (c.loop-place.place - 1)).low + (c.args.len - before.low) < c.args.bounds.now.width) (sym same) (omega (arith, c.requires.within))

pub loop-place-preserved : goal.loop-place-preserved
loop-place-preserved c =
    let before = c.args.self.now in
    let now = c.loop-place.self in
    let place = c.loop-place.place - 1 in
    let sweep = c.loop-place.invariant.sweeping in
    let low = low_is before.fixed before.parts.items before.low c.args.len before.least c.if-len-self.false c.requires.short in
    let inside : place < length before.parts.items = omega (arith, c.len-place.ensures, before.parts.ok.0) in
    let next : place + 1 ≡ c.loop-place.place = omega arith in
    let narrow : c.args.len - before.low < now.spreads.width = omega (arith, sweep.width, c.requires.within, c.requires.columns) in
    let room : c.index.result.now ≡ part_at before.parts.items place = get_or_read before.parts.items place c.index.result.now inside (subst (λ ps. c.index.result.now ≡ slice_index_or ps place c.index.result.now) (c.keep.ensures.parts ∙ sweep.parts) c.index.ensures) (record { worth = OfLetters 0 0; low = 0; room = 0 }) in
    let rooms_are = rooms_at before.parts.items place inside in
    let rest : c.loop-place.rest_room ≡ min (rooms (drop (place + 1) before.parts.items)) 18446744073709551615 = subst (λ p. c.loop-place.rest_room ≡ min (rooms (drop p before.parts.items)) 18446744073709551615) (sym next) c.loop-place.invariant.rest_room in
    let room_is : c.index.result.now.room ≡ (part_at before.parts.items place).room = ap (λ p. p.room) room in
    record {
      sweeping = sweep_step c.args.bounds.now (c.args.len - before.fixed) (c.args.len - before.low) before now c.keep.new.self place c.loop-place.best c.best_spread-best.result
          (subst (λ p. IsSweeping c.args.bounds.now (c.args.len - before.fixed) (c.args.len - before.low) before now p c.loop-place.best) (sym next) sweep)
          (omega arith) inside narrow c.keep.ensures.constant c.keep.ensures.fixed c.keep.ensures.low c.keep.ensures.parts c.keep.ensures.width c.keep.ensures.here c.keep.ensures.other_columns c.keep.ensures.other_rows c.best_spread-best.ensures;
      rest_room = omega (arith, c.saturating_add-rest_room.ensures);
    }

pub returns-then-len-self-clause-value : goal.returns-then-len-self-clause-value
returns-then-len-self-clause-value c = λ bound reads spreads.
    let before = c.args.self.now in
    let none = kept_too_short bound before.constant before.fixed before.parts.items c.args.len (omega (arith, before.least, c.if-len-self.true, c.requires.short)) in
    sym (ap told none)

pub returns-then-len-self-clause-spread : goal.returns-then-len-self-clause-spread
returns-then-len-self-clause-spread c = λ bound reads spreads.
    let before = c.args.self.now in
    subst (AreSpread bound before) (omega (arith, before.least, c.if-len-self.true, c.requires.short)) (none_spread bound before)

pub returns-then-spare-rest_room-clause-value : goal.returns-then-spare-rest_room-clause-value
returns-then-spare-rest_room-clause-value c = λ bound reads spreads.
    let before = c.args.self.now in
    let low = low_is before.fixed before.parts.items before.low c.args.len before.least c.if-len-self.false c.requires.short in
    let first : c.loop-place.place ≡ 0 = omega (arith, c.loop-place-test.false) in
    let room = c.loop-place.invariant.rest_room in
    let whole : c.loop-place.rest_room ≡ min (rooms before.parts.items) 18446744073709551615 = subst (λ p. c.loop-place.rest_room ≡ min (rooms (drop p before.parts.items)) 18446744073709551615) first room in
    sym (ap told (kept_too_long bound before.constant before.fixed before.parts.items c.args.len (omega arith) (omega (arith, c.if-spare-rest_room.true, c.requires.short))))

pub returns-then-spare-rest_room-clause-spread : goal.returns-then-spare-rest_room-clause-spread
returns-then-spare-rest_room-clause-spread c = λ bound reads spreads.
    let before = c.args.self.now in
    let low = low_is before.fixed before.parts.items before.low c.args.len before.least c.if-len-self.false c.requires.short in
    let spare : c.args.len - before.low ≡ c.args.len - (before.fixed + lows before.parts.items) = omega arith in
    subst (AreSpread bound c.loop-place.self) (omega arith)
    (swept bound c.args.bounds.now (c.args.len - before.fixed) (c.args.len - before.low) before c.loop-place.self c.loop-place.place c.loop-place.best c.loop-place-test.false c.loop-place.invariant.sweeping (reads (omega arith)) (subst (AreSpread bound before) (sym spare) spreads))

pub returns-clause-value : goal.returns-clause-value
returns-clause-value c = λ bound reads spreads.
    let before = c.args.self.now in
    let low = low_is before.fixed before.parts.items before.low c.args.len before.least c.if-len-self.false c.requires.short in
    let spare : c.args.len - before.low ≡ c.args.len - (before.fixed + lows before.parts.items) = omega arith in
    let first : c.loop-place.place ≡ 0 = omega (arith, c.loop-place-test.false) in
    let whole : c.loop-place.rest_room ≡ min (rooms before.parts.items) 18446744073709551615 = subst (λ p. c.loop-place.rest_room ≡ min (rooms (drop p before.parts.items)) 18446744073709551615) first c.loop-place.invariant.rest_room in
    let best = swept_best bound c.args.bounds.now (c.args.len - before.fixed) (c.args.len - before.low) before c.loop-place.self c.loop-place.place c.loop-place.best c.loop-place-test.false c.loop-place.invariant.sweeping (reads (omega arith)) (subst (AreSpread bound before) (sym spare) spreads) in
    let value = kept_of_ways bound before.constant before.fixed before.parts.items c.args.len (omega arith) (omega (arith, c.if-spare-rest_room.false)) in
    let same = ap (spread bound before.parts.items) spare in
    let constant = c.loop-place.invariant.sweeping.constant in
    omega (arith, c.cut_sum.ensures)

pub returns-clause-spread : goal.returns-clause-spread
returns-clause-spread c = λ bound reads spreads.
    let before = c.args.self.now in
    let low = low_is before.fixed before.parts.items before.low c.args.len before.least c.if-len-self.false c.requires.short in
    let spare : c.args.len - before.low ≡ c.args.len - (before.fixed + lows before.parts.items) = omega arith in
    subst (AreSpread bound c.loop-place.self) (omega arith)
    (swept bound c.args.bounds.now (c.args.len - before.fixed) (c.args.len - before.low) before c.loop-place.self c.loop-place.place c.loop-place.best c.loop-place-test.false c.loop-place.invariant.sweeping (reads (omega arith)) (subst (AreSpread bound before) (sym spare) spreads))
