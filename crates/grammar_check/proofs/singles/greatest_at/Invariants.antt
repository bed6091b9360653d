use Rattle.std.proofs.Common.{◌≡◌, ℕ, ◌<◌, max, length}
use Rattle.std.specs.List.{All}
use Rattle.adp_model.specs.LimitFaults.{told}
use Rattle.grammar_check.specs.declared.singles.Single.{Single}
use Rattle.grammar_check.specs.SingleRules.{AreSinglesRead, single_number}
use Rattle.grammar_check.specs.TokenNumbers.{greatest_of}
use Rattle.grammar_check.proofs.singles.greatest_at.Given as goal

abbrev pub invariant-loop-first : goal.invariant-loop-first
invariant-loop-first l = record {
  readable : All (λ (single : Single). single.rule < l.bounds.rows) l.rest;
  read : (bound : ℕ → ℕ → ℕ) → AreSinglesRead bound l.bounds l.own l.each → AreSinglesRead bound l.bounds l.own l.rest;
  best : (bound : ℕ → ℕ → ℕ) → AreSinglesRead bound l.bounds l.own l.each
      → told (max l.best (greatest_of (single_number bound l.own) l.rest)) ≡ told (greatest_of (single_number bound l.own) l.each);
}

abbrev pub decreases-loop-first : goal.decreases-loop-first
decreases-loop-first l = length l.rest
