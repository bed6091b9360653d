-- Each turn reads the option before those that were read.
use Rattle.std.proofs.Common.{◌≡◌, ◌≤◌, ◌%◌, length, drop, map}
use Rattle.std.specs.String.{string_bytes}
use Rattle.command_words.proofs.Options.{AreRead}
use Rattle.command_words.proofs.words.read_words.Given as goal

abbrev pub invariant-loop-place : goal.invariant-loop-place
invariant-loop-place l = record {
  odd : l.place % 2 ≡ 1;
  within : l.place ≤ length l.words;
  read : AreRead (drop l.place (map string_bytes l.words)) l.set;
}

abbrev pub decreases-loop-place : goal.decreases-loop-place
decreases-loop-place l = l.place
