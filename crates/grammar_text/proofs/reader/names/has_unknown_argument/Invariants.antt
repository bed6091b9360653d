use Rattle.std.proofs.Common.{◌≡◌, List, map, drop}
use Rattle.std.specs.List.{list_any}
use Rattle.job_texts.specs.Declarations.{Declaration}
use Rattle.job_texts.specs.TextFaults.{is_unknown_argument}
use Rattle.grammar_text.specs.Names.{AreNames}
use Rattle.grammar_text.specs.Seen.{argument_seen}
use Rattle.grammar_text.proofs.reader.names.has_unknown_argument.Given as goal

abbrev pub invariant-loop-argument : goal.invariant-loop-argument
invariant-loop-argument l =
    (all : List Declaration) → AreNames l.names all →
    list_any (is_unknown_argument all) (map argument_seen l.arguments)
    ≡ list_any (is_unknown_argument all) (map argument_seen (drop l.argument-index l.arguments))
