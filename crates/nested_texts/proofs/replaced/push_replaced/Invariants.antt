use Rattle.std.proofs.Common.{◌≡◌, ◌+◌, ◌≤◌, ◌++◌, length, map}
use Rattle.std.specs.List.{All}
use Rattle.nested_texts.specs.PlainTexts.{replaced}
use Rattle.nested_texts.specs.Seen.{nested_seen, AreInside, IsWithin}
use Rattle.nested_texts.proofs.replaced.push_replaced.Given as goal

-- what was appended, and what is left
abbrev pub invariant-loop-first : goal.invariant-loop-first
invariant-loop-first l = record {
  begins : l.begin ≤ length l.line;
  inside : AreInside l.rest;
  within : All (IsWithin l.line) l.rest;
  numbers : l.next + length l.rest ≤ l.number + length l.nested;
  seen : l.out.items ++ replaced l.line l.to (l.around + 1) l.next l.begin (map nested_seen l.rest)
      ≡ l.initial.out.items ++ replaced l.line l.to (l.around + 1) l.number l.from (map nested_seen l.nested);
}

abbrev pub decreases-loop-first : goal.decreases-loop-first
decreases-loop-first l = length l.rest
