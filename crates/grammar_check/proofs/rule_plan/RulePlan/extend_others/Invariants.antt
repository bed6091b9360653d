use Rattle.std.proofs.Common.{◌≡◌, ℕ, ◌+◌, length, take}
use Rattle.std.specs.List.{All, AllWithin}
use Rattle.adp_model.specs.LimitFaults.{told}
use Rattle.grammar_check.specs.RuleValues.{IsWide, IsAllReadable, plan_of, kept_rule_value, AreAllRead, IsSpreadTo}
use Rattle.grammar_check.proofs.rule_plan.RulePlan.extend_others.Given as goal

abbrev pub invariant-loop-place : goal.invariant-loop-place
invariant-loop-place l = record {
  plan : plan_of l.self.alternatives.items ≡ plan_of l.initial.self.alternatives.items;
  singles : l.self.singles ≡ l.initial.self.singles;
  tokens : l.self.tokens ≡ l.initial.self.tokens;
  each : length l.self.alternatives.items ≡ length l.initial.self.alternatives.items;
  readable : All (λ alternative. IsAllReadable l.bounds.rows alternative) l.self.alternatives.items;
  columns : All (λ alternative. IsWide l.bounds.width alternative) l.self.alternatives.items;
  value : (bound : ℕ → ℕ → ℕ) → AreAllRead bound l.bounds (plan_of l.initial.self.alternatives.items) l.len
      → All (IsSpreadTo bound l.len) l.initial.self.alternatives.items
      → l.best ≡ told (kept_rule_value bound (take l.place (plan_of l.initial.self.alternatives.items)) l.len);
  older : (bound : ℕ → ℕ → ℕ) → AreAllRead bound l.bounds (plan_of l.initial.self.alternatives.items) l.len
      → All (IsSpreadTo bound l.len) l.initial.self.alternatives.items
      → All (IsSpreadTo bound l.len) l.self.alternatives.items;
  spread : (bound : ℕ → ℕ → ℕ) → AreAllRead bound l.bounds (plan_of l.initial.self.alternatives.items) l.len
      → All (IsSpreadTo bound l.len) l.initial.self.alternatives.items
      → AllWithin (IsSpreadTo bound (l.len + 1)) l.self.alternatives.items 0 l.place;
}
