use Rattle.std.proofs.Common.{◌≡◌, ℕ, ◌+◌, ◌-◌, ◌<◌, ◌≤◌, List, length, drop, slice_index_or, refl, ◌∙◌, sym, ap, subst, arith}
use Rattle.std.proofs.lemmas.List.{get_or_read}
use Rattle.adp_model.specs.LimitFaults.{told}
use Rattle.grammar_check.specs.declared.part.Worth.TheVariants.{OfRule, OfLetters}
use Rattle.grammar_check.specs.declared.part.Part.{Part}
use Rattle.grammar_check.specs.Plans.{IsReadable, ReadsRight, worth_of, spread, part_at}
use Rattle.grammar_check.proofs.Spreads.{added_by, best_step, best_done, letters_add, once_read, last_alone}
use Rattle.grammar_check.proofs.linear_alternative.LinearAlternative.best_spread.Goals as goal

part_of : (parts : List Part) (place : ℕ) (part : Part) → place < length parts → part ≡ slice_index_or parts place part → part ≡ part_at parts place
part_of parts place part inside is = get_or_read parts place part inside is (record { worth = OfLetters 0 0; low = 0; room = 0 })

readable_of : (rows : ℕ) (part part' : Part) → part ≡ part' → IsReadable rows part'.worth → IsReadable rows part.worth
readable_of rows part part' same h = subst (λ p. IsReadable rows p.worth) (sym same) h

within_of : (part part' : Part) (more spare width : ℕ) → part ≡ part' → more ≤ spare → part'.low + spare < width → part.low + more < width
within_of part part' more spare width same low within = let lows = ap (λ p. p.low) same in omega arith

pub last_spread-requires-clause-readable : goal.last_spread-requires-clause-readable
last_spread-requires-clause-readable c =
    readable_of c.args.bounds.now.rows c.index-part.result.now (part_at c.args.self.now.parts.items c.args.place)
    (part_of c.args.self.now.parts.items c.args.place c.index-part.result.now (omega (arith, c.args.self.now.parts.ok.0, c.requires.place)) c.index-part.ensures) c.requires.readable

pub last_spread-requires-clause-within : goal.last_spread-requires-clause-within
last_spread-requires-clause-within c =
    within_of c.index-part.result.now (part_at c.args.self.now.parts.items c.args.place) c.args.spare c.args.spare c.args.bounds.now.width
    (part_of c.args.self.now.parts.items c.args.place c.index-part.result.now (omega (arith, c.args.self.now.parts.ok.0, c.requires.place)) c.index-part.ensures) (omega arith) c.requires.within

pub row-requires : goal.row-requires
row-requires c =
    let part_is = part_of c.args.self.now.parts.items c.args.place c.index-part.result.now (omega (arith, c.args.self.now.parts.ok.0, c.requires.place)) c.index-part.ensures in
    subst (IsReadable c.args.bounds.now.rows) c.in-OfRule-default-eq1.is (readable_of c.args.bounds.now.rows c.index-part.result.now (part_at c.args.self.now.parts.items c.args.place) part_is c.requires.readable)

pub best_of_rule-requires-clause-within : goal.best_of_rule-requires-clause-within
best_of_rule-requires-clause-within c = omega (arith, c.row.ensures.width, c.requires.within)

pub at-here-requires-clause-readable : goal.at-here-requires-clause-readable
at-here-requires-clause-readable c = readable_of c.args.bounds.now.rows c.index-part.result.now (part_at c.args.self.now.parts.items c.args.place)
    (part_of c.args.self.now.parts.items c.args.place c.index-part.result.now (omega (arith, c.args.self.now.parts.ok.0, c.requires.place)) c.index-part.ensures) c.requires.readable

pub at-here-requires-clause-within : goal.at-here-requires-clause-within
at-here-requires-clause-within c = within_of c.index-part.result.now (part_at c.args.self.now.parts.items c.args.place) c.loop-more.more c.args.spare c.args.bounds.now.width
    (part_of c.args.self.now.parts.items c.args.place c.index-part.result.now (omega (arith, c.args.self.now.parts.ok.0, c.requires.place)) c.index-part.ensures)
    (omega (arith, c.loop-more-test.true, c.min-last.ensures)) c.requires.within

pub loop-more-preserved : goal.loop-more-preserved
loop-more-preserved c = record {
  upper = omega arith;
  best = λ bound reads rest_right.
      let part = c.index-part.result.now in
      let more = c.loop-more.more in
      let within : more ≤ c.args.spare = omega arith in
      let here = c.at-here.ensures bound (reads more within) in
      let rest = c.get-rest.ensures ∙ rest_right (c.args.spare - more) (omega arith) in
      best_step (added_by bound part (drop (c.args.place + 1) c.args.self.now.parts.items) c.args.spare) c.saturating_sub-first.result more c.loop-more.best
      c.at-here.result c.get-rest.result c.cut_sum.result c.max-best.result (worth_of bound part.worth (part.low + more)) (spread bound (drop (c.args.place + 1) c.args.self.now.parts.items) (c.args.spare - more))
      c.loop-more.auto.more (c.loop-more.invariant.best bound reads rest_right) refl here rest c.cut_sum.ensures c.max-best.ensures;
}

pub returns : goal.returns
returns c = λ bound reads rest_right.
    let parts = c.args.self.now.parts.items in
    let place = c.args.place in
    let inside : place < length parts = omega (arith, c.args.self.now.parts.ok.0, c.requires.place) in
    let behind : place + 1 < length parts = omega (arith, c.args.self.now.parts.ok.0, c.requires.place, c.if-place-len.false, c.len.ensures) in
    let part = c.index-part.result.now in
    let part_is : part ≡ part_at parts place = part_of parts place part inside c.index-part.ensures in
    best_done bound parts part place c.args.spare c.args.rest_room c.loop-more.best c.loop-more.more c.saturating_sub-first.result c.min-last.result inside part_is (omega arith) c.requires.rest_room c.saturating_sub-first.ensures c.min-last.ensures c.loop-more-test.false c.loop-more.auto.more c.loop-more.invariant.upper
    (c.loop-more.invariant.best bound (λ more within. subst (λ p. ReadsRight bound c.args.bounds.now p.worth (p.low + more)) (sym part_is) (reads more within)) (rest_right behind))

pub returns-then-place-len : goal.returns-then-place-len
returns-then-place-len c = λ bound reads rest_right.
    let parts = c.args.self.now.parts.items in
    let place = c.args.place in
    let inside : place < length parts = omega (arith, c.args.self.now.parts.ok.0, c.requires.place) in
    let ends : place + 1 ≡ length parts = omega (arith, c.args.self.now.parts.ok.0, c.if-place-len.true, c.len.ensures) in
    let part = c.index-part.result.now in
    let part_is : part ≡ part_at parts place = part_of parts place part inside c.index-part.ensures in
    c.last_spread.ensures bound (subst (λ p. ReadsRight bound c.args.bounds.now p.worth (p.low + c.args.spare)) (sym part_is) (reads c.args.spare (omega arith)))
    ∙ ap told (last_alone bound parts part place c.args.spare ends part_is)

pub returns-in-OfRule-default-eq1 : goal.returns-in-OfRule-default-eq1
returns-in-OfRule-default-eq1 c = λ bound reads rest_right.
    let parts = c.args.self.now.parts.items in
    let place = c.args.place in
    let inside : place < length parts = omega (arith, c.args.self.now.parts.ok.0, c.requires.place) in
    let behind : place + 1 < length parts = omega (arith, c.args.self.now.parts.ok.0, c.requires.place, c.if-place-len.false, c.len.ensures) in
    let part = c.index-part.result.now in
    let part_is : part ≡ part_at parts place = part_of parts place part inside c.index-part.ensures in
    c.best_of_rule.ensures bound
    (λ more within. once_read bound c.args.bounds.now (part_at parts place).worth c.in-OfRule-default-eq1.rule c.in-OfRule-default-eq1.factor ((part_at parts place).low + more) _
    (subst (λ p. p.worth ≡ OfRule c.in-OfRule-default-eq1.rule c.in-OfRule-default-eq1.factor) part_is c.in-OfRule-default-eq1.is) (omega (arith, c.in-OfRule-default-eq1.factor-test)) (reads more within)
    (c.row.ensures.entries _ (omega (arith, c.requires.within))))
    (rest_right behind)

pub returns-in-OfLetters : goal.returns-in-OfLetters
returns-in-OfLetters c = λ bound reads rest_right.
    let parts = c.args.self.now.parts.items in
    let place = c.args.place in
    let inside : place < length parts = omega (arith, c.args.self.now.parts.ok.0, c.requires.place) in
    let behind : place + 1 < length parts = omega (arith, c.args.self.now.parts.ok.0, c.requires.place, c.if-place-len.false, c.len.ensures) in
    let part = c.index-part.result.now in
    let part_is : part ≡ part_at parts place = part_of parts place part inside c.index-part.ensures in
    c.best_of_letters.ensures bound
    (λ len. letters_add bound (part_at parts place).worth c.in-OfLetters.weight c.in-OfLetters.factor c.cut_product-worth.result len
    (subst (λ p. p.worth ≡ OfLetters c.in-OfLetters.weight c.in-OfLetters.factor) part_is c.in-OfLetters.is) c.cut_product-worth.ensures)
    (rest_right behind)

pub best_of_letters-requires-clause-within : goal.best_of_letters-requires-clause-within
best_of_letters-requires-clause-within c = omega (arith, c.requires.within)

pub get-rest-requires-clause-row : goal.get-rest-requires-clause-row
get-rest-requires-clause-row c = omega (arith, c.requires.place, c.if-place-len.false, c.len.ensures)

pub get-rest-requires-clause-column : goal.get-rest-requires-clause-column
get-rest-requires-clause-column c = omega (arith, c.requires.column)

pub overflow_add-part : goal.overflow_add-part
overflow_add-part c =
    let lows = ap (λ p. p.low) (part_of c.args.self.now.parts.items c.args.place c.index-part.result.now (omega (arith, c.args.self.now.parts.ok.0, c.requires.place)) c.index-part.ensures) in
    omega (arith, lows, c.loop-more-test.true, c.min-last.ensures, c.requires.within)
