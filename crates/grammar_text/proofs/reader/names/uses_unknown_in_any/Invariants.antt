use Rattle.std.proofs.Common.{◌≡◌, List, map, drop}
use Rattle.std.specs.List.{list_any}
use Rattle.job_texts.specs.Declarations.{Declaration}
use Rattle.job_texts.specs.TextFaults.{is_unknown_alternative}
use Rattle.grammar_text.specs.Names.{AreNames}
use Rattle.grammar_text.specs.Seen.{alternative_seen}
use Rattle.grammar_text.proofs.reader.names.uses_unknown_in_any.Given as goal

abbrev pub invariant-loop-alternative : goal.invariant-loop-alternative
invariant-loop-alternative l =
    (all : List Declaration) → AreNames l.names all →
    list_any (is_unknown_alternative all) (map alternative_seen l.alternatives)
    ≡ list_any (is_unknown_alternative all) (map alternative_seen (drop l.alternative-index l.alternatives))
