use Rattle.std.proofs.Common.{◌≡◌, ◌+◌, ◌<◌, ◌≤◌, List, length, sym, ap, subst, ◌∙◌, arith}
use Rattle.adp_model.specs.Parts.{alternatives_of}
use Rattle.yield_sizes.specs.declared.places.Place.{Place}
use Rattle.yield_sizes.proofs.GrammarReads.{alternatives_read}
use Rattle.yield_sizes.proofs.PlaceLists.{ArePlacesBelow, one_place_more, one_rule_more}
use Rattle.yield_sizes.proofs.places.all_places.Goals as goal

pub loop-alternative-preserved : goal.loop-alternative-preserved
loop-alternative-preserved c =
    let grammar = c.args.grammar.now in
    let rule = c.loop-rule.rule in
    let items = c.as_slice-it-items.result.now in
    let inside : rule < length items = omega arith in
    let read : c.as_slice-alternative-end.result.now ≡ alternatives_of grammar rule = c.as_slice-alternative-end.ensures ∙ alternatives_read grammar items rule c.it-item.result c.as_slice-it-items.ensures inside c.it-item.is in
    let within : c.loop-alternative.alternative < length (alternatives_of grammar rule) = omega (arith, ap length read) in
    let P : List Place → Type 0 = λ places. ArePlacesBelow grammar places rule (c.loop-alternative.alternative + 1) in
    subst P (sym c.in_ok-push.ensures.items) (one_place_more grammar c.loop-alternative.places.items rule c.loop-alternative.alternative within c.loop-alternative.invariant)

pub loop-rule-preserved : goal.loop-rule-preserved
loop-rule-preserved c =
    let grammar = c.args.grammar.now in
    let rule = c.loop-rule.rule in
    let items = c.as_slice-it-items.result.now in
    let inside : rule < length items = omega arith in
    let read : c.as_slice-alternative-end.result.now ≡ alternatives_of grammar rule = c.as_slice-alternative-end.ensures ∙ alternatives_read grammar items rule c.it-item.result c.as_slice-it-items.ensures inside c.it-item.is in
    let whole : length (alternatives_of grammar rule) ≤ c.loop-alternative.alternative = omega (arith, ap length read) in
    one_rule_more grammar c.loop-alternative.places.items rule c.loop-alternative.alternative whole c.loop-alternative.invariant
