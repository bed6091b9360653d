use Rattle.std.proofs.Common.{◌≡◌, map, drop}
use Rattle.std.specs.List.{list_any}
use Rattle.grammar_text.specs.Names.{lacks_sign}
use Rattle.grammar_text.specs.Seen.{declaration_seen}
use Rattle.grammar_text.proofs.reader.repeats.lacks_let.Given as goal

abbrev pub invariant-loop-declaration : goal.invariant-loop-declaration
invariant-loop-declaration l =
    list_any (lacks_sign l.signs) (map declaration_seen l.declared)
    ≡ list_any (lacks_sign l.signs) (map declaration_seen (drop l.declaration-index l.declared))
