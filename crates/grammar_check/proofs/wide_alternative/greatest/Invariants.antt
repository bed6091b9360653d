use Rattle.std.proofs.Common.{◌≡◌, ◌+◌, ◌-◌, ◌≤◌, max, slice_index}
use Rattle.grammar_check.specs.Plans.{greatest_from}
use Rattle.grammar_check.proofs.wide_alternative.greatest.Given as goal

abbrev pub invariant-loop-place : goal.invariant-loop-place
invariant-loop-place l = record {
  upper : l.place ≤ max l.first (l.last + 1);
  best : l.best ≡ greatest_from (slice_index l.numbers) l.first (l.place - l.first);
}
