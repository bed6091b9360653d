use Rattle.std.proofs.Common.{◌≡◌, List, [], ◌∷◌, map, inl, refl, sym, ap, subst, ◌∙◌}
use Rattle.grammar_check.specs.declared.part.Part.{Part}
use Rattle.grammar_check.specs.declared.part.Worth.TheVariants.{OfRule}
use Rattle.grammar_check.specs.declared.singles.Single.{Single}
use Rattle.grammar_check.specs.KeptPlans.{AddsKept}
use Rattle.grammar_check.specs.SingleRules.{single_kept, singles_kept}
use Rattle.grammar_check.proofs.KeptPlanSteps.{raise_adds, last_adds}
use Rattle.grammar_check.proofs.singles.Singles.add.Goals as goal

pub returns-in-Some : goal.returns-in-Some
returns-in-Some c =
    let shape = c.args.self.now.shape in
    let old = c.index_mut.result.now in
    let new = c.raise.new.self in
    let old_is = c.index_mut.ensures.value in
    let rule : old.rule ≡ c.args.single.rule = ap (λ (s : Single). s.rule) old_is ∙ c.in-Some.ensures.same old in
    let new_rule : new.rule ≡ c.args.single.rule = c.raise.ensures.rule ∙ rule in
    let parts : List Part = record { worth = OfRule c.args.single.rule 1; low = shape.low; room = shape.room } ∷ [] in
    raise_adds (single_kept shape) c.args.self.now.each.items c.in-Some.place old new old.constant c.args.single.constant shape.fixed parts
    c.in-Some.ensures.inside old_is
    (λ i. (inl old.constant, shape.fixed, record { worth = OfRule (rule i) 1; low = shape.low; room = shape.room } ∷ []))
    (λ i. (inl (c.raise.ensures.constant i), shape.fixed, record { worth = OfRule (new_rule i) 1; low = shape.low; room = shape.room } ∷ []))

pub returns : goal.returns
returns c =
    let kept = single_kept c.args.self.now.shape in
    subst (λ items. AddsKept (singles_kept c.args.self.now) (map kept items) (kept c.args.single)) (sym c.in_ok-push.ensures.items)
    (last_adds kept c.args.self.now.each.items c.args.single (kept c.args.single) refl)
