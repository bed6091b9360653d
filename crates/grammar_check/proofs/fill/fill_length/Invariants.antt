use Rattle.std.proofs.Common.{ℕ}
use Rattle.grammar_check.specs.Fills.{rules_plan, StayFillable, IsKept, IsKeptRanked, IsFilledTo, IsRankFilled}
use Rattle.grammar_check.proofs.fill.fill_length.Given as goal

abbrev pub invariant-loop-rank : goal.invariant-loop-rank
invariant-loop-rank l = record {
  stay : StayFillable l.initial.table l.initial.plans l.table l.plans;
  filled : (bound : ℕ → ℕ → ℕ) → IsKept bound (rules_plan l.initial.plans.items) l.len → IsKeptRanked l.ranks (rules_plan l.initial.plans.items)
      → IsFilledTo bound l.initial.table l.initial.plans.items l.len
      → IsRankFilled bound l.ranks l.table l.plans.items l.len l.rank;
}
