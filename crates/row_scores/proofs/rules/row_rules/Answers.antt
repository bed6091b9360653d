use Rattle.std.proofs.Common.{◌+◌, length, get_or, sym, subst, refl}
use Rattle.std.specs.Prelude.{IfSome}
use Rattle.std.proofs.lemmas.List.Elements.{Contains-get_or}
use Rattle.adp_model.specs.PosedProblem.{PosedProblem}
use Rattle.adp_model.specs.Parts.{alternatives_of}
use Rattle.row_scores.specs.Order.{AreInRowOrder}
use Rattle.row_scores.specs.RowRules.{AreRowAlternatives}
use Rattle.row_scores.proofs.RuleLists.{AreFirstRules, all_rules, rule_more}
use Rattle.row_scores.proofs.rules.row_rules.Goals as goal
use Rattle.row_scores.proofs.rules.row_rules.Goals.{After-deref-rule-items}

in_order : (c : After-deref-rule-items) → AreInRowOrder c.args.lines.now c.deref-rule-items.result.now
in_order c =
    let found = subst (λ order. IfSome order (λ rules. AreInRowOrder c.problem.result.now rules.items)) c.in-Some.is c.in_ok-order.ensures in
    subst (λ rules. AreInRowOrder c.args.lines.now rules) (sym c.deref-rule-items.ensures.value)
    (subst (λ (p : PosedProblem). AreInRowOrder p c.in-Some.order.items) c.problem.ensures found)

pub row_alternatives-requires : goal.row_alternatives-requires
row_alternatives-requires c =
    let order = in_order (goal.at.row_alternatives-requires c).After-deref-rule-items in
    let l = c.loop-rule-test.true in
    order.known _ (Contains-get_or c.deref-rule-items.result.now c.loop-rule.rule-index 0 l)

pub loop-rule-preserved : goal.loop-rule-preserved
loop-rule-preserved c =
    let p = c.args.lines.now in
    let order = in_order (goal.at.loop-rule-preserved c).After-deref-rule-items in
    let rules = c.deref-rule-items.result.now in
    let rule = get_or rules c.loop-rule.rule-index 0 in
    let l = c.loop-rule-test.true in
    let alternatives =
    subst (λ found. IfSome found (λ all. AreRowAlternatives p rule (length (alternatives_of p.grammar rule)) all.items))
    c.in-Some-2.is c.in_ok-alternatives.ensures in
    subst (AreFirstRules p rules (c.loop-rule.rule-index + 1)) (sym c.in_ok-push.ensures.items)
    (rule_more p rules c.loop-rule.rule-index c.loop-rule.rules.items _ c.loop-rule.invariant l refl
    (record { known = order.known rule (Contains-get_or rules c.loop-rule.rule-index 0 l); alternatives = alternatives }))

pub returns : goal.returns
returns c =
    all_rules c.args.lines.now c.deref-rule-items.result.now c.loop-rule.rule-index c.loop-rule.rules.items c.loop-rule.invariant c.loop-rule-test.false
    (in_order (goal.at.returns c).After-deref-rule-items)
