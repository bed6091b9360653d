use Rattle.std.proofs.Common.{ℕ, ◌≤◌}
use Rattle.grammar_check.specs.Fills.{rules_plan, StayFillable, IsKept, IsKeptRanked, IsFilledTo}
use Rattle.grammar_check.proofs.fill.fill.Given as goal

abbrev pub invariant-loop-len : goal.invariant-loop-len
invariant-loop-len l = record {
  stay : StayFillable l.initial.table l.initial.plans l.table l.plans;
  filled : (bound : ℕ → ℕ → ℕ) → ((len : ℕ) → len ≤ l.most → IsKept bound (rules_plan l.initial.plans.items) len)
      → IsKeptRanked l.ranks (rules_plan l.initial.plans.items)
      → IsFilledTo bound l.initial.table l.initial.plans.items 0 → IsFilledTo bound l.table l.plans.items l.len;
}
