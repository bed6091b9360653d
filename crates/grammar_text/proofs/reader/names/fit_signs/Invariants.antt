use Rattle.std.proofs.Common.{◌≡◌, map, drop}
use Rattle.std.specs.List.{list_all}
use Rattle.job_texts.specs.TextFaults.{fits_sign}
use Rattle.grammar_text.specs.Seen.{alternative_seen, declaration_seen}
use Rattle.grammar_text.proofs.reader.names.fit_signs.Given as goal

abbrev pub invariant-loop-alternative : goal.invariant-loop-alternative
invariant-loop-alternative l =
    list_all (fits_sign (map declaration_seen l.declared)) (map alternative_seen l.alternatives)
    ≡ list_all (fits_sign (map declaration_seen l.declared)) (map alternative_seen (drop l.alternative-index l.alternatives))
