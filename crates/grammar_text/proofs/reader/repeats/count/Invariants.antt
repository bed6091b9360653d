use Rattle.std.proofs.Common.{◌≡◌, ◌≤◌, map, length, take}
use Rattle.grammar_text.specs.Names.{names_as}
use Rattle.grammar_text.specs.Seen.{declaration_seen}
use Rattle.grammar_text.proofs.reader.repeats.count.Given as goal

abbrev pub invariant-loop-declaration : goal.invariant-loop-declaration
invariant-loop-declaration l = record {
  count : l.count ≡ length (names_as l.sort (map declaration_seen (take l.declaration-index l.declared)));
  small : l.count ≤ l.declaration-index;
}
