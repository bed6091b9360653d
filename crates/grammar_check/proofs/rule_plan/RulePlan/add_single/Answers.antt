use Rattle.std.proofs.Common.{◌≡◌, [], ◌∷◌, ◌++◌, sym, ap, subst, ◌∙◌}
use Rattle.grammar_check.specs.declared.singles.Shape.{Shape}
use Rattle.grammar_check.specs.declared.singles.Singles.{Singles}
use Rattle.grammar_check.specs.KeptPlans.{AddsKept}
use Rattle.grammar_check.specs.SingleRules.{single_kept, singles_kept, all_singles}
use Rattle.grammar_check.proofs.KeptPlanSteps.{on_ok}
use Rattle.grammar_check.proofs.SinglePlans.{shape_adds, place_adds}
use Rattle.grammar_check.proofs.rule_plan.RulePlan.add_single.Goals as goal

pub returns-in-Some-clause-kept : goal.returns-in-Some-clause-kept
returns-in-Some-clause-kept c =
    let old = c.index_mut.result.now in
    let new = c.add.new.self in
    let shape : old.shape ≡ c.args.shape = ap (λ (s : Singles). s.shape) c.index_mut.ensures.value ∙ c.in-Some.ensures.same old in
    on_ok c.add.result
    (λ adds. place_adds c.args.self.now.singles.items c.in-Some.place old new (single_kept c.args.shape c.args.single) c.in-Some.ensures.inside c.index_mut.ensures.value
    (subst (λ (s : Shape). AddsKept (singles_kept old) (singles_kept new) (single_kept s c.args.single)) shape adds))
    c.add.ensures

pub returns-clause-kept : goal.returns-clause-kept
returns-clause-kept c =
    let new = c.in_ok-singles.singles in
    subst (λ items. AddsKept (all_singles c.args.self.now.singles.items) (all_singles items) (single_kept c.args.shape c.args.single)) (sym c.in_ok-push.ensures.items)
    (subst (λ (s : Shape). AddsKept (all_singles c.args.self.now.singles.items) (all_singles (c.args.self.now.singles.items ++ new ∷ [])) (single_kept s c.args.single)) c.in_ok-singles.ensures.shape
    (shape_adds c.args.self.now.singles.items new c.args.single c.in_ok-singles.ensures.each))
