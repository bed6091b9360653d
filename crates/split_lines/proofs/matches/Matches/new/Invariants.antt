use Rattle.std.proofs.Common.{◌≡◌, ◌≤◌, length}
use Rattle.split_lines.specs.Matching.{AreMatchPositions, AreCounts}
use Rattle.split_lines.proofs.matches.Matches.new.Given as goal

-- the positions so far, and the counts
abbrev pub invariant-loop-position : goal.invariant-loop-position
invariant-loop-position l = record {
  positions : AreMatchPositions l.tables l.tokens l.width l.position l.positions.items;
  each : length l.before.items ≡ l.position;
  before : AreCounts l.positions.items l.before.items;
  few : length l.positions.items ≤ l.position;
}
