use Rattle.std.proofs.Common.{◌≡◌, ℕ, ◌+◌, ◌-◌, ◌≤◌, max, slice_index}
use Rattle.adp_model.specs.LimitFaults.{told}
use Rattle.grammar_check.specs.Plans.{greatest_from}
use Rattle.grammar_check.specs.TermSpreads.{put}
use Rattle.grammar_check.proofs.wide_rows.best_of_sides.Given as goal

abbrev pub invariant-loop-more : goal.invariant-loop-more
invariant-loop-more l = record {
  upper : l.more ≤ max l.first (l.last + 1);
  best : (one other : ℕ → ℕ) → ((column : ℕ) → column ≤ l.spare → slice_index l.left column ≡ told (one column))
      → ((column : ℕ) → column ≤ l.spare → slice_index l.right column ≡ told (other column))
      → l.best ≡ told (greatest_from (λ more. put l.operation (one more) (other (l.spare - more))) l.first (l.more - l.first));
}
