use Rattle.std.proofs.Common.{◌≡◌, ℕ, ◌+◌, ◌-◌, ◌<◌, take, length, get_or, refl, subst, sym, ap, ◌∙◌, inl, inr, ⊎_elim, arith}
use Rattle.std.specs.List.{Contains}
use Rattle.std.proofs.lemmas.List.Elements.{Contains-get_or}
use Rattle.std.proofs.Math.Seq.{take_all}
use Rattle.cell_tables.specs.Spans.{AreSet}
use Rattle.cell_tables.proofs.Lists.{contained_later, contained_now, contained_cases}
use Rattle.cell_tables.proofs.Values.{set_more}
use Rattle.cell_tables.proofs.grid.set_places.Goals as goal

pub overflow_sub-value : goal.overflow_sub-value
overflow_sub-value g c =
    c.requires.back (get_or c.args.places.now c.loop-place.place-index 0) (Contains-get_or c.args.places.now c.loop-place.place-index 0 (omega arith))

pub loop-place-preserved : goal.loop-place-preserved
loop-place-preserved g c =
    let places = c.args.places.now in
    let i = c.loop-place.place-index in
    let here = get_or places i 0 in
    let inside : i < length places = omega arith in
    let contains = Contains-get_or places i 0 inside in
    set_more c.args.values.now c.loop-place.values
    (λ at. (place : ℕ) × Contains (take i places) place × (at ≡ place + c.args.ahead - c.args.back))
    (λ at. (place : ℕ) × Contains (take (i + 1) places) place × (at ≡ place + c.args.ahead - c.args.back))
    (here + c.args.ahead - c.args.back) c.args.value (c.requires.within here contains) c.loop-place.invariant
    (λ at (place, is, e).
    ⊎_elim (λ before. inl (place, before, e)) (λ same. inr (e ∙ ap (λ x. x + c.args.ahead - c.args.back) (sym same))) (contained_cases places i 0 place inside is))
    (λ at (place, is, e). (place, contained_later places i 0 place inside is, e))
    (here, contained_now places i 0 inside, refl)

pub returns : goal.returns
returns g c =
    let places = c.args.places.now in
    let all = take_all c.loop-place.place-index places (omega arith) in
    subst (λ xs. AreSet c.args.values.now c.loop-place.values (λ at. (place : ℕ) × Contains xs place × (at ≡ place + c.args.ahead - c.args.back)) c.args.value) all c.loop-place.invariant
