use Rattle.std.proofs.Common.{◌≡◌, ◌<◌, length, slice_index_or, sym, ap, subst, ◌∙◌}
use Rattle.std.proofs.lemmas.List.{get_or_read}
use Rattle.grammar_check.specs.RuleValues.{kept_of}
use Rattle.grammar_check.proofs.rule_plan.RulePlan.place_of.Goals as goal

pub returns-then-has_parts-clause-same : goal.returns-then-has_parts-clause-same
returns-then-has_parts-clause-same c = λ d.
    let items = c.args.self.now.alternatives.items in
    let place = c.loop-place.place in
    let item = c.alternative-item.result in
    let same = c.deref-alternative-items.ensures.value in
    let found = c.has_parts.ensures c.if-has_parts.true in
    let item_is : item ≡ slice_index_or items place d =
    get_or_read items place item (subst (λ its. place < length its) same c.loop-place-test.true) (subst (λ its. item ≡ slice_index_or its place item) same c.alternative-item.is) d in
    (found.0, ap kept_of (sym item_is) ∙ found.1)
