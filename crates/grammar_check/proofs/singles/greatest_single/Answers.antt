use Rattle.std.proofs.Common.{ap, ◌∙◌}
use Rattle.grammar_check.specs.RuleValues.{IsKeptReadable, IsReadFor, kept_rule_value}
use Rattle.grammar_check.specs.SingleRules.{singles_kept, all_singles}
use Rattle.grammar_check.proofs.KeptPlanSteps.{kept_rule_value-append}
use Rattle.grammar_check.proofs.SinglePlans.{All-first, All-second, singles_step}
use Rattle.grammar_check.proofs.singles.greatest_single.Goals as goal

pub greatest-requires-clause-readable : goal.greatest-requires-clause-readable
greatest-requires-clause-readable c =
    All-first (IsKeptReadable c.args.bounds.now.rows) (singles_kept c.in-Some.first.now) (all_singles c.in-Some.others.now) (rw c.in-Some.ensures.cases.0 at c.loop-first.invariant.readable)

pub loop-first-preserved : goal.loop-first-preserved
loop-first-preserved c =
    let plan = singles_kept c.in-Some.first.now in
    let others = all_singles c.in-Some.others.now in
    let split = c.in-Some.ensures.cases.0 in
    let inv = c.loop-first.invariant in
    let len = c.args.len in
    record {
      readable = All-second (IsKeptReadable c.args.bounds.now.rows) plan others (rw split at inv.readable);
      read = λ bound reads. All-second (IsReadFor bound c.args.bounds.now len) plan others (rw split at (inv.read bound reads));
      best = λ bound reads.
          let here = c.greatest.ensures bound (All-first (IsReadFor bound c.args.bounds.now len) plan others (rw split at (inv.read bound reads))) in
          singles_step c.max-best.result c.greatest.result c.loop-first.best (kept_rule_value bound plan len) (kept_rule_value bound others len) (kept_rule_value bound (all_singles c.loop-first.rest.now) len) _
          c.max-best.ensures here (ap (λ s. kept_rule_value bound (all_singles s) len) split ∙ kept_rule_value-append bound plan others len) (inv.best bound reads);
    }
