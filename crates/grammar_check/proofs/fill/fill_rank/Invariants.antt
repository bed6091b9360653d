use Rattle.std.proofs.Common.{ℕ}
use Rattle.grammar_check.specs.Fills.{rules_plan, StayFillable, IsKept, IsKeptRanked, IsRankFilled}
use Rattle.grammar_check.proofs.RankSteps.{IsPartlyFilled}
use Rattle.grammar_check.proofs.fill.fill_rank.Given as goal

abbrev pub invariant-loop-rule : goal.invariant-loop-rule
invariant-loop-rule l = record {
  stay : StayFillable l.initial.table l.initial.plans l.table l.plans;
  filled : (bound : ℕ → ℕ → ℕ) → IsKept bound (rules_plan l.initial.plans.items) l.len → IsKeptRanked l.ranks (rules_plan l.initial.plans.items)
      → IsRankFilled bound l.ranks l.initial.table l.initial.plans.items l.len l.rank
      → IsPartlyFilled bound l.ranks l.table l.plans.items l.len l.rank l.rule;
}
