use Rattle.std.proofs.Common.{◌≡◌, ◌<◌, length, vec_len, sym, subst, ◌∙◌, arith}
use Rattle.std.proofs.lemmas.List.Elements.{All-set}
use Rattle.grammar_check.specs.Fills.{IsRuleReadable, IsRuleWide, IsKept, IsKeptRanked}
use Rattle.grammar_check.proofs.RankSteps.{rules_plan-set, tokens-set, rank_step, rank_skip, rank_done}
use Rattle.grammar_check.proofs.fill.fill_rank.Goals as goal
use Rattle.grammar_check.proofs.fill.fill_rank.Goals.{then-ranks-rule, else-ranks-rule}

pub loop-rule-preserved : goal.loop-rule-preserved
loop-rule-preserved c = elim c.if-ranks-rule.branch [
  | then-ranks-rule w ↦
      let plans = c.loop-rule.plans.items in
      let rule = c.loop-rule.rule in
      let old = w.index_mut-plan.result.now in
      let new = w.extend-value.new.self in
      let inv = c.loop-rule.invariant in
      let stay = inv.stay in
      let old_is = w.index_mut-plan.ensures.value in
      let inside : rule < length plans = omega (arith, c.len-rule-end.ensures, stay.each, c.loop-rule.plans.ok.0) in
      let count : length plans ≡ vec_len c.args.plans.now = omega (arith, stay.each, c.loop-rule.plans.ok.0) in
      let rows : c.loop-rule.table.rows ≡ vec_len c.args.plans.now = stay.rows ∙ c.requires.fillable.rows in
      let old_readable : IsRuleReadable (vec_len c.args.plans.now) old = subst (IsRuleReadable (vec_len c.args.plans.now)) (sym old_is) (stay.readable rule old inside) in
      rw (w.plans-is, w.table-is) (record {
        stay = record {
          rows = w.set.ensures.rows ∙ stay.rows;
          width = w.set.ensures.width ∙ stay.width;
          each = stay.each;
          plan = rules_plan-set plans rule old new old_is w.extend-value.ensures.plan ∙ stay.plan;
          tokens = tokens-set plans rule old new old_is w.extend-value.ensures.tokens ∙ stay.tokens;
          readable = All-set (IsRuleReadable (vec_len c.args.plans.now)) plans rule new (subst (λ n. IsRuleReadable n new) rows w.extend-value.ensures.readable) stay.readable;
          columns = All-set (IsRuleWide c.args.table.now.width) plans rule new (subst (λ n. IsRuleWide n new) stay.width w.extend-value.ensures.columns) stay.columns;
        };
        filled = λ bound planned lesser filled.
            rank_step bound c.args.ranks.now c.loop-rule.table plans c.args.len c.args.rank rule w.set.new.self old new w.extend-value.result
            (inv.filled bound planned lesser filled)
            (subst (λ p. IsKept bound p c.args.len) (sym stay.plan) planned)
            (subst (λ p. IsKeptRanked c.args.ranks.now p) (sym stay.plan) lesser)
            inside w.if-ranks-rule.true old_is (subst (λ n. IsRuleReadable n old) (sym count) old_readable) (omega (arith, stay.width, c.requires.within))
            (w.extend-value.ensures.value bound) (w.extend-value.ensures.spread bound)
            w.set.ensures.here w.set.ensures.other_columns w.set.ensures.other_rows;
      })
  | else-ranks-rule w ↦ rw (w.plans-is, w.table-is) (record {
    stay = c.loop-rule.invariant.stay;
    filled = λ bound planned lesser filled.
        rank_skip bound c.args.ranks.now c.loop-rule.table c.loop-rule.plans.items c.args.len c.args.rank c.loop-rule.rule (c.loop-rule.invariant.filled bound planned lesser filled) w.if-ranks-rule.false;
  })
]

pub returns-clause-filled : goal.returns-clause-filled
returns-clause-filled c = λ bound planned lesser filled.
    rank_done bound c.args.ranks.now c.loop-rule.table c.loop-rule.plans.items c.args.len c.args.rank c.loop-rule.rule (omega (arith, c.loop-rule-test.false, c.len-rule-end.ensures, c.loop-rule.invariant.stay.each, c.loop-rule.plans.ok.0)) (c.loop-rule.invariant.filled bound planned lesser filled)
