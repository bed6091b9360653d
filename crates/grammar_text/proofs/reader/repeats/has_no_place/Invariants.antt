use Rattle.std.proofs.Common.{◌≡◌, map, take}
use Rattle.grammar_text.specs.Names.{has_no_place}
use Rattle.grammar_text.specs.Seen.{declaration_seen}
use Rattle.grammar_text.proofs.reader.repeats.has_no_place.Given as goal

abbrev pub invariant-loop-declaration : goal.invariant-loop-declaration
invariant-loop-declaration l = l.misplaced ≡ has_no_place (map declaration_seen (take l.declaration-index l.above)) l.sign
