use Rattle.std.proofs.Common.{◌≡◌, map, drop}
use Rattle.std.specs.List.{list_all, zip}
use Rattle.job_texts.specs.TextFaults.{fits_kind}
use Rattle.grammar_text.specs.Seen.{argument_seen}
use Rattle.grammar_text.proofs.reader.names.fit_kinds.Given as goal

abbrev pub invariant-loop-i : goal.invariant-loop-i
invariant-loop-i l =
    list_all fits_kind (zip l.kinds (map argument_seen l.arguments))
    ≡ list_all fits_kind (zip (drop l.i l.kinds) (map argument_seen (drop l.i l.arguments)))
