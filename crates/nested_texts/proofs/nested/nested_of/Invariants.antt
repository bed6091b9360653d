use Rattle.std.proofs.Common.{◌≡◌, ◌≤◌, length, map, drop}
use Rattle.algebra_terms.specs.Tokens.{placed}
use Rattle.nested_texts.specs.NestedRules.{ends_of, nested_behind}
use Rattle.nested_texts.specs.Seen.{closes_seen, from_before, nested_seen, IsScan, IsScanOf}
use Rattle.nested_texts.proofs.nested.nested_of.Given as goal

-- what the tokens from a place on have
abbrev pub invariant-loop-at : goal.invariant-loop-at
invariant-loop-at l = record {
  within : l.at ≤ length l.tokens;
  scan : IsScan l.closes l.found;
  lies : IsScanOf l.line l.closes l.found;
  ends : closes_seen l.closes ≡ ends_of (map (placed l.line) (drop l.at l.tokens));
  seen : map nested_seen l.found ≡ nested_behind (from_before l.tokens l.at) (map (placed l.line) (drop l.at l.tokens));
}

abbrev pub decreases-loop-at : goal.decreases-loop-at
decreases-loop-at l = l.at
