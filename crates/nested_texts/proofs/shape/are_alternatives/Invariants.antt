use Rattle.std.proofs.Common.{◌≡◌, ◌-◌, ◌≤◌, length, drop}
use Rattle.nested_texts.specs.NestedRules as rules
use Rattle.nested_texts.specs.Seen.{are_right, tokens_seen}
use Rattle.nested_texts.proofs.shape.are_alternatives.Given as goal

abbrev pub invariant-reading : goal.invariant-reading
invariant-reading l = record {
  within : l.at ≤ length l.said;
  shallow : l.depth ≤ l.at;
  seen : are_right l.place l.depth (tokens_seen (drop l.at l.said)) ≡ rules.are_alternatives (tokens_seen l.said);
}

abbrev pub decreases-reading : goal.decreases-reading
decreases-reading l = length l.said - l.at
