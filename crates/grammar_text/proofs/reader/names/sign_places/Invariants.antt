use Rattle.std.proofs.Common.{map, take}
use Rattle.grammar_text.specs.Names.{AreSignPlaces}
use Rattle.grammar_text.specs.Seen.{declaration_seen}
use Rattle.grammar_text.proofs.reader.names.sign_places.Given as goal

abbrev pub invariant-loop-i : goal.invariant-loop-i
invariant-loop-i l = AreSignPlaces l.places (map declaration_seen (take l.i l.declared))
