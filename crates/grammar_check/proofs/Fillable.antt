-- A table and plans that stay fillable while bounds are written.
use Rattle.std.proofs.Common.{ℕ, List, Vec, refl, sym, subst, ◌∙◌}
use Rattle.std.specs.List.{All}
use Rattle.std.specs.Global.{Global}
use Rattle.grammar_check.specs.declared.table.Table.{Table}
use Rattle.grammar_check.specs.declared.rule_plan.RulePlan.{RulePlan}
use Rattle.grammar_check.specs.Fills.{IsRuleReadable, IsRuleWide, AreFillable, StayFillable}

pub stay_as_they_are : {ranks : List ℕ} {table : Table} {plans : Vec RulePlan Global} → AreFillable ranks table plans
    → StayFillable table plans table plans
stay_as_they_are fillable = record {
  rows = refl;
  width = refl;
  each = refl;
  plan = refl;
  tokens = refl;
  readable = fillable.readable;
  columns = fillable.columns;
}

pub fillable_after : {ranks : List ℕ} {old new : Table} {before after : Vec RulePlan Global}
    → AreFillable ranks old before → StayFillable old before new after → AreFillable ranks new after
fillable_after {after = after} fillable stay = record {
  rows = stay.rows ∙ fillable.rows ∙ sym stay.each;
  ranks = fillable.ranks ∙ sym stay.each;
  readable = subst (λ n. All (IsRuleReadable n) after.items) (sym stay.each) stay.readable;
  columns = subst (λ n. All (IsRuleWide n) after.items) (sym stay.width) stay.columns;
}

pub stay_through : {old mid new : Table} {before between after : Vec RulePlan Global}
    → StayFillable old before mid between → StayFillable mid between new after → StayFillable old before new after
stay_through {after = after} first second = record {
  rows = second.rows ∙ first.rows;
  width = second.width ∙ first.width;
  each = second.each ∙ first.each;
  plan = second.plan ∙ first.plan;
  tokens = second.tokens ∙ first.tokens;
  readable = subst (λ n. All (IsRuleReadable n) after.items) first.each second.readable;
  columns = subst (λ n. All (IsRuleWide n) after.items) first.width second.columns;
}
