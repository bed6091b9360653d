use Rattle.std.proofs.Common.{ℕ, ◌+◌, List, take, sym, ap, subst, ◌∙◌}
use Rattle.std.specs.Prelude.{bit_or, slice_index, unwrap_or}
use Rattle.std.proofs.Math.Seq.{take_all}
use Rattle.std.proofs.lemmas.List.{get_or_default}
use Rattle.cell_tables.proofs.SetSpans.{AreAnySet, one_more_rule}
use Rattle.cell_tables.proofs.marked_spans.any_set.Goals as goal

pub loop-rule-preserved : goal.loop-rule-preserved
loop-rule-preserved c =
    let spans = c.args.spans.now in
    let rules = c.args.rules.now in
    let near = c.args.near in
    let number = c.args.number in
    let i = c.loop-rule.rule-index in
    let rule = slice_index rules i in
    let inside = c.loop-rule-test.true in
    let more = one_more_rule spans near number rules i rule c.loop-rule.bits inside (get_or_default rules i 0 rule inside) c.loop-rule.invariant in
    let word = c.unwrap_or-bits.ensures ∙ ap (λ value. unwrap_or value 0) c.get.ensures in
    let B : ℕ → Type 0 = λ bits. AreAnySet spans near number (take (i + 1) rules) (bit_or c.loop-rule.bits bits) in
    subst B (sym word) more

pub returns : goal.returns
returns c =
    let rules = c.args.rules.now in
    let all = take_all c.loop-rule.rule-index rules c.loop-rule-test.false in
    let R : List ℕ → Type 0 = λ some. AreAnySet c.args.spans.now c.args.near c.args.number some c.loop-rule.bits in
    subst R all c.loop-rule.invariant
