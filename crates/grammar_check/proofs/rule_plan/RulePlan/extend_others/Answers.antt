use Rattle.std.proofs.Common.{◌≡◌, ℕ, ◌<◌, ◌+◌, length, slice_index_or, sym, subst, ◌∙◌, arith}
use Rattle.std.specs.List.{All}
use Rattle.std.proofs.lemmas.List.{length-set}
use Rattle.std.proofs.lemmas.List.Elements.{All-set, AllWithin-more_set}
use Rattle.grammar_check.specs.declared.alternative.Alternative.{Alternative}
use Rattle.grammar_check.specs.RuleValues.{IsWide, IsAllReadable, kept_of, plan_of, AreAllRead, IsSpreadTo}
use Rattle.grammar_check.proofs.Spreads.{ord_max-numbers}
use Rattle.grammar_check.proofs.RulePlans.{plan-set, plan_at, length-plan, value_step, read_at, spread_less}
use Rattle.grammar_check.proofs.rule_plan.RulePlan.extend_others.Goals as goal

pub loop-place-preserved : goal.loop-place-preserved
loop-place-preserved c =
    let now = c.loop-place.self.alternatives.items in
    let before = c.args.self.now.alternatives.items in
    let place = c.loop-place.place in
    let old = c.index_mut-alternative.result.now in
    let new = c.extend-value.new.self in
    let inv = c.loop-place.invariant in
    let inside : place < length now = omega (arith, c.len-place-end.ensures, inv.each, c.args.self.now.alternatives.ok.0) in
    let here : slice_index_or (plan_of before) place (kept_of old) ≡ kept_of old = plan_at now (plan_of before) place old inside inv.plan c.index_mut-alternative.ensures.value in
    let in_plan : place < length (plan_of before) = omega (arith, length-plan before, inv.each) in
    let old_all = λ (P : Alternative → Type 0) (all : All P now). subst P (sym c.index_mut-alternative.ensures.value) (all place old inside) in
    let spread_of = λ (bound : ℕ → ℕ → ℕ) (reads : AreAllRead bound c.args.bounds.now (plan_of before) c.args.len) (spreads : All (IsSpreadTo bound c.args.len) before).
    c.extend-value.ensures.spread bound (read_at bound c.args.bounds.now (plan_of before) place c.args.len old in_plan here reads) (old_all (IsSpreadTo bound c.args.len) (inv.older bound reads spreads)) in
    record {
      plan = plan-set now place old new c.index_mut-alternative.ensures.value c.extend-value.ensures.kept ∙ inv.plan;
      singles = inv.singles;
      tokens = inv.tokens;
      each = length-set now place new ∙ inv.each;
      readable = All-set (IsAllReadable c.args.bounds.now.rows) now place new c.extend-value.ensures.readable inv.readable;
      columns = All-set (IsWide c.args.bounds.now.width) now place new c.extend-value.ensures.columns inv.columns;
      value = λ bound reads spreads.
          value_step bound (plan_of before) place c.args.len c.loop-place.best c.extend-value.result c.max-best.result old in_plan here (inv.value bound reads spreads)
          (c.extend-value.ensures.value bound (read_at bound c.args.bounds.now (plan_of before) place c.args.len old in_plan here reads) (old_all (IsSpreadTo bound c.args.len) (inv.older bound reads spreads)))
          (c.max-best.ensures ∙ ord_max-numbers c.loop-place.best c.extend-value.result);
      older = λ bound reads spreads.
          All-set (IsSpreadTo bound c.args.len) now place new (spread_less bound c.args.len new (spread_of bound reads spreads)) (inv.older bound reads spreads);
      spread = λ bound reads spreads.
          AllWithin-more_set now place new inside (IsSpreadTo bound (c.args.len + 1)) (inv.spread bound reads spreads) (spread_of bound reads spreads);
    }

pub returns-clause-spread : goal.returns-clause-spread
returns-clause-spread c = λ bound reads spreads k d inside.
    c.loop-place.invariant.spread bound reads spreads k d (omega arith)
    (omega (arith, inside, c.loop-place.invariant.each, c.loop-place-test.false, c.len-place-end.ensures, c.args.self.now.alternatives.ok.0))
