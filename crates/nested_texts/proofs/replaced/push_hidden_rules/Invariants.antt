use Rattle.std.proofs.Common.{◌≡◌, ◌+◌, ◌++◌, length, map}
use Rattle.std.specs.List.{All}
use Rattle.nested_texts.specs.PlainTexts.{hidden_rules, line_of}
use Rattle.nested_texts.specs.Seen.{nested_seen, origins_of, text_of, AreInside, IsWithin}
use Rattle.nested_texts.proofs.replaced.push_hidden_rules.Given as goal

abbrev pub invariant-loop-first : goal.invariant-loop-first
invariant-loop-first l = record {
  inside : AreInside l.rest;
  within : All (IsWithin l.line) l.rest;
  numbers : l.next + length l.rest ≡ l.number + length l.nested;
  text : l.lines.text.items ++ text_of (map (line_of l.origin) (hidden_rules l.line l.next (map nested_seen l.rest)))
      ≡ l.initial.lines.text.items ++ text_of (map (line_of l.origin) (hidden_rules l.line l.number (map nested_seen l.nested)));
  origins : l.lines.origins.items ++ origins_of (map (line_of l.origin) (hidden_rules l.line l.next (map nested_seen l.rest)))
      ≡ l.initial.lines.origins.items ++ origins_of (map (line_of l.origin) (hidden_rules l.line l.number (map nested_seen l.nested)));
}

abbrev pub decreases-loop-first : goal.decreases-loop-first
decreases-loop-first l = length l.rest
