use Rattle.std.proofs.Common.{◌≡◌, ℕ, ◌<◌, false, List, length, get_or, set, sym, ap, subst, rules, ◌∙◌, arith}
use Rattle.std.proofs.lemmas.List.FromFn.{get_or-map-range_with_len, length-map-range_with_len}
use Rattle.adp_model.specs.declared.grammar.Grammar.{Grammar}
use Rattle.yield_sizes.specs.declared.places.Place.{Place}
use Rattle.yield_sizes.specs.Places.{AreNamingRows, ArePlaces, places_naming}
use Rattle.yield_sizes.specs.KnownGreatest.{AreRising}
use Rattle.yield_sizes.proofs.GreatestLengths.{naming_within, no_mark, rising_done, rising_next, work_falls}
use Rattle.yield_sizes.proofs.greatest_lengths.raise_again.Goals as goal

rows_long : (grammar : Grammar) (rows : List (List Place)) → AreNamingRows grammar rows → length rows ≡ length grammar.rules
rows_long grammar rows naming = ap length naming.2 ∙ length-map-range_with_len (places_naming grammar naming.0) 0 (length grammar.rules)

row_is : (grammar : Grammar) (rows : List (List Place)) (naming : AreNamingRows grammar rows) (rule : ℕ) (row : List Place) → rule < length grammar.rules → row ≡ get_or rows rule row → row ≡ places_naming grammar naming.0 rule
row_is grammar rows naming rule row l is =
    is ∙ ap (λ (it : List (List Place)). get_or it rule row) naming.2
    ∙ get_or-map-range_with_len (places_naming grammar naming.0) 0 (length grammar.rules) rule rule row l (omega arith)

pub offset_bounds-naming-rule : goal.offset_bounds-naming-rule
offset_bounds-naming-rule c =
    let grammar = c.args.grammar.now in
    let marked : c.in-Some.rule < length c.args.risen.now = c.in-Some.ensures.0 in
    let within : c.in-Some.rule < length c.args.naming.now = omega (arith, rows_long grammar c.args.naming.now c.requires.naming, c.requires.rising.marked) in
    search rules

pub bounds-naming-rule : goal.bounds-naming-rule
bounds-naming-rule c =
    let grammar = c.args.grammar.now in
    let marked : c.in-Some.rule < length c.args.risen.now = c.in-Some.ensures.0 in
    omega (arith, rows_long grammar c.args.naming.now c.requires.naming, c.requires.rising.marked)

pub raise-requires-clause-places : goal.raise-requires-clause-places
raise-requires-clause-places c =
    let grammar = c.args.grammar.now in
    let rule = c.in-Some.rule in
    let marked : rule < length c.args.risen.now = c.in-Some.ensures.0 in
    let within : rule < length grammar.rules = omega (arith, c.requires.rising.marked) in
    let row : c.as_slice.result.now ≡ places_naming grammar c.requires.naming.0 rule = c.as_slice.ensures ∙ row_is grammar c.args.naming.now c.requires.naming rule c.index-naming-rule.result within c.index-naming-rule.is in
    subst (ArePlaces grammar) (sym row) (naming_within grammar c.requires.naming.0 rule c.requires.naming.1)

pub raise-requires-clause-rising : goal.raise-requires-clause-rising
raise-requires-clause-rising c =
    let grammar = c.args.grammar.now in
    let rule = c.in-Some.rule in
    let marked : rule < length c.args.risen.now = c.in-Some.ensures.0 in
    let within : rule < length grammar.rules = omega (arith, c.requires.rising.marked) in
    let row : c.as_slice.result.now ≡ places_naming grammar c.requires.naming.0 rule = c.as_slice.ensures ∙ row_is grammar c.args.naming.now c.requires.naming rule c.index-naming-rule.result within c.index-naming-rule.is in
    subst (λ (waiting : List Place). AreRising grammar waiting c.args.known.now (set c.args.risen.now rule false)) (sym row) (rising_next grammar c.requires.naming.0 c.args.known.now c.args.risen.now rule c.requires.naming.1 c.requires.rising)

pub returns-in-None-clause-done : goal.returns-in-None-clause-done
returns-in-None-clause-done c = λ _. rising_done c.args.grammar.now c.args.known.now c.args.risen.now c.requires.rising (no_mark c.args.risen.now c.in-None.ensures)

pub returns-in-Some-clause-less : goal.returns-in-Some-clause-less
returns-in-Some-clause-less c = λ _.
    let marked = c.in-Some.ensures.0 in
    work_falls c.args.known.now c.raise.new.known c.args.risen.now c.raise.new.risen c.in-Some.rule marked c.in-Some.ensures.1
    (c.raise.ensures.rising.marked ∙ sym c.requires.rising.marked) c.raise.ensures.change
