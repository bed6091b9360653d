use Rattle.std.proofs.Common.{◌≡◌, ℕ, ◌+◌, ◌≤◌, List, [], ◌∷◌, ◌++◌, length, map, take, slice_index_or, ap, sym, subst, ◌∙◌, arith}
use Rattle.std.proofs.lemmas.List.{take_all, take_more, map-append}
use Rattle.adp_model.specs.declared.grammar.Alt.{Alt}
use Rattle.grammar_check.specs.GrammarPlans.{HasFewLeaves, own_in, parts_in, entry_in, lengths_of, wide_in}
use Rattle.grammar_check.specs.KeptPlans.{Keeps}
use Rattle.grammar_check.proofs.PlanLists.{length-parts}
use Rattle.grammar_check.proofs.plan.rule_plan.Goals as goal
use Rattle.grammar_check.specs.RuleValues.{Entry}

-- the entries of the alternatives so far, with one more
entries_more : (entry : Alt → Entry) (alternatives : List Alt) (index : ℕ) (item : Alt) (new : Entry) → index + 1 ≤ length alternatives → item ≡ slice_index_or alternatives index item → new ≡ entry item → map entry (take index alternatives) ++ new ∷ [] ≡ map entry (take (index + 1) alternatives)
entries_more entry alternatives index item new inside item_is new_is =
    ap (λ (e : Entry). map entry (take index alternatives) ++ e ∷ []) (new_is ∙ ap entry item_is)
    ∙ sym (map-append entry (take index alternatives) (slice_index_or alternatives index item ∷ []))
    ∙ ap (map entry) (sym (take_more alternatives index item (omega arith)))

pub add_alternative-requires-clause-few : goal.add_alternative-requires-clause-few
add_alternative-requires-clause-few c =
    let item = c.alternative-item.result in
    let few : length item.args ≤ 4 = subst (λ (a : Alt). length a.args ≤ 4) (sym c.alternative-item.is) (c.requires.few c.loop-alternative.alternative-index item c.loop-alternative-test.true) in
    let count = length-parts c.args.grammar.now c.args.measure (lengths_of c.args.sizes.now c.args.most) item.sign 0 c.as_slice-arguments.result.now in
    omega (arith, ap length c.in_ok-parts.ensures, ap length c.as_slice-arguments.ensures, c.in_ok-parts.parts.ok.0)

pub add_alternative-requires-clause-term : goal.add_alternative-requires-clause-term
add_alternative-requires-clause-term c =
    subst (λ (a : Alt). HasFewLeaves (wide_in c.args.grammar.now c.args.measure a.sign)) (sym c.alternative-item.is) (c.requires.terms c.loop-alternative.alternative-index c.alternative-item.result c.loop-alternative-test.true)

pub loop-alternative-preserved : goal.loop-alternative-preserved
loop-alternative-preserved c =
    let item = c.alternative-item.result in
    let lengths = lengths_of c.args.sizes.now c.args.most in
    let new : Entry = (own_in c.args.grammar.now c.args.measure item.sign, c.in_ok-parts.parts.items) in
    let new_is : new ≡ entry_in c.args.grammar.now c.args.measure lengths item =
    λ i. (own_in c.args.grammar.now c.args.measure item.sign, (c.in_ok-parts.ensures ∙ ap (parts_in c.args.grammar.now c.args.measure lengths item.sign 0) c.as_slice-arguments.ensures) i) in
    record {
      plan = subst (λ entries. Keeps entries c.add_alternative.new.plan) (entries_more (entry_in c.args.grammar.now c.args.measure lengths) c.args.alternatives.now c.loop-alternative.alternative-index item new (omega (arith, c.loop-alternative-test.true)) c.alternative-item.is new_is)
          (c.in_ok-add_alternative.ensures.keeps (map (entry_in c.args.grammar.now c.args.measure lengths) (take c.loop-alternative.alternative-index c.args.alternatives.now)) c.loop-alternative.invariant.plan);
      columns = c.in_ok-add_alternative.ensures.columns c.loop-alternative.invariant.columns;
    }

pub loop-alternative-init : goal.loop-alternative-init
loop-alternative-init c = record { plan = c.new-plan.ensures.keeps; columns = c.new-plan.ensures.columns (c.args.most + 1) }

pub returns-clause-plan : goal.returns-clause-plan
returns-clause-plan c =
    subst (λ as'. Keeps (map (entry_in c.args.grammar.now c.args.measure (lengths_of c.args.sizes.now c.args.most)) as') c.loop-alternative.plan)
    (take_all c.loop-alternative.alternative-index c.args.alternatives.now c.loop-alternative-test.false) c.loop-alternative.invariant.plan

pub returns-clause-columns : goal.returns-clause-columns
returns-clause-columns c = c.loop-alternative.invariant.columns
