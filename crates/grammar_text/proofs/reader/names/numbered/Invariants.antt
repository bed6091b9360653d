use Rattle.std.proofs.Common.{◌≡◌, ◌≤◌, length, map, take}
use Rattle.grammar_text.specs.Names.{AreNumbers, names_as}
use Rattle.grammar_text.specs.Seen.{declaration_seen}
use Rattle.grammar_text.proofs.reader.names.numbered.Given as goal

abbrev pub invariant-loop-declaration : goal.invariant-loop-declaration
invariant-loop-declaration l = record {
  numbers : AreNumbers l.numbers (names_as l.sort (map declaration_seen (take l.declaration-index l.declared)));
  count : l.count ≡ length (names_as l.sort (map declaration_seen (take l.declaration-index l.declared)));
  small : l.count ≤ l.declaration-index;
}
