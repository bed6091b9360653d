use Rattle.std.proofs.Common.{◌≡◌, map, drop}
use Rattle.std.specs.List.{list_any}
use Rattle.job_texts.specs.TextFaults.{is_axiom_line}
use Rattle.grammar_text.specs.Seen.{declaration_seen}
use Rattle.grammar_text.proofs.reader.repeats.has_axiom.Given as goal

abbrev pub invariant-loop-declaration : goal.invariant-loop-declaration
invariant-loop-declaration l =
    list_any is_axiom_line (map declaration_seen l.declared)
    ≡ list_any is_axiom_line (map declaration_seen (drop l.declaration-index l.declared))
