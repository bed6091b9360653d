use Rattle.std.proofs.Common.{◌≡◌, ℕ, ◌+◌, ◌-◌, ◌*◌, ◌≤◌, max, drop}
use Rattle.adp_model.specs.LimitFaults.{told}
use Rattle.grammar_check.specs.Plans.{worth_of, spread, greatest_from}
use Rattle.grammar_check.specs.Tables.{entry}
use Rattle.grammar_check.proofs.Spreads.{added_by}
use Rattle.grammar_check.proofs.linear_alternative.LinearAlternative.best_of_letters.Given as goal

abbrev pub invariant-loop-more : goal.invariant-loop-more
invariant-loop-more l = record {
  upper : l.more ≤ max l.first (l.last + 1);
  best : (bound : ℕ → ℕ → ℕ) → ((len : ℕ) → told (len * l.worth) ≡ told (worth_of bound l.part.worth len))
      → ((column : ℕ) → column ≤ l.spare → entry l.self.spreads l.place column ≡ told (spread bound (drop (l.place + 1) l.self.parts.items) column))
      → l.best ≡ told (greatest_from (added_by bound l.part (drop (l.place + 1) l.self.parts.items) l.spare) l.first (l.more - l.first));
}
