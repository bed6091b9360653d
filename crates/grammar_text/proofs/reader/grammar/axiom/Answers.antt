use Rattle.std.proofs.Common.{◌≡◌, None, map, sym, ◌∙◌, ap}
use Rattle.std.specs.List.{filter_map}
use Rattle.job_texts.specs.DeclaredNames.{first_of_list}
use Rattle.job_texts.specs.JobText.{axiom_name}
use Rattle.grammar_text.specs.Seen.{declaration_seen}
use Rattle.grammar_text.proofs.Built.{none_left}
use Rattle.grammar_text.proofs.reader.grammar.axiom.Goals as goal

pub returns : goal.returns
returns c =
    let none : first_of_list (filter_map axiom_name (map declaration_seen c.args.declared.now)) ≡ None =
    sym c.loop-declaration.invariant ∙ ap (λ l. first_of_list (filter_map axiom_name (map declaration_seen l))) (none_left c.args.declared.now c.loop-declaration.declaration-index c.loop-declaration-test.false) in
    rw none (c.rule_number-2.ensures (map declaration_seen c.args.declared.now) c.requires)
