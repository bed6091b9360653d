use Rattle.std.proofs.Common.{◌≡◌, map, drop}
use Rattle.std.specs.List.{list_any}
use Rattle.grammar_text.specs.Gathering.{is_words_declaration}
use Rattle.grammar_text.specs.Seen.{declaration_seen}
use Rattle.grammar_text.proofs.reader.gathered.has_words.Given as goal

abbrev pub invariant-loop-declaration : goal.invariant-loop-declaration
invariant-loop-declaration l =
    list_any is_words_declaration (map declaration_seen l.declared)
    ≡ list_any is_words_declaration (map declaration_seen (drop l.declaration-index l.declared))
