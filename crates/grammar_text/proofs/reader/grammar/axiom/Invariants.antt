use Rattle.std.proofs.Common.{◌≡◌, map, drop}
use Rattle.std.specs.List.{filter_map}
use Rattle.job_texts.specs.DeclaredNames.{first_of_list}
use Rattle.job_texts.specs.JobText.{axiom_name}
use Rattle.grammar_text.specs.Seen.{declaration_seen}
use Rattle.grammar_text.proofs.reader.grammar.axiom.Given as goal

abbrev pub invariant-loop-declaration : goal.invariant-loop-declaration
invariant-loop-declaration l =
    first_of_list (filter_map axiom_name (map declaration_seen (drop l.declaration-index l.declared)))
    ≡ first_of_list (filter_map axiom_name (map declaration_seen l.declared))
