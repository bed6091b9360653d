use Rattle.std.proofs.Common.{◌≡◌, ℕ, max, length}
use Rattle.std.specs.List.{All}
use Rattle.adp_model.specs.LimitFaults.{told}
use Rattle.grammar_check.specs.RuleValues.{IsKeptReadable, AreAllRead, kept_rule_value}
use Rattle.grammar_check.specs.SingleRules.{all_singles}
use Rattle.grammar_check.proofs.singles.greatest_single.Given as goal

abbrev pub invariant-loop-first : goal.invariant-loop-first
invariant-loop-first l = record {
  readable : All (IsKeptReadable l.bounds.rows) (all_singles l.rest);
  read : (bound : ℕ → ℕ → ℕ) → AreAllRead bound l.bounds (all_singles l.all) l.len → AreAllRead bound l.bounds (all_singles l.rest) l.len;
  best : (bound : ℕ → ℕ → ℕ) → AreAllRead bound l.bounds (all_singles l.all) l.len
      → max l.best (told (kept_rule_value bound (all_singles l.rest) l.len)) ≡ told (kept_rule_value bound (all_singles l.all) l.len);
}

abbrev pub decreases-loop-first : goal.decreases-loop-first
decreases-loop-first l = length l.rest
