-- The first words are no longer.
use Rattle.std.proofs.Common.{ℕ, ◌<◌, ◌≤◌, [], length, get_or}
use Rattle.adp_main.proofs.limits.longest.Given as goal

abbrev pub invariant-loop-word : goal.invariant-loop-word
invariant-loop-word l = record {
  most : l.longest ≤ 4000;
  each : (place : ℕ) → place < l.word-index → length (get_or l.words place []) ≤ l.longest;
}
