use Rattle.std.proofs.Common.{◌≡◌, map, ap, ◌∙◌}
use Rattle.job_texts.specs.JobText.{declared_algebras}
use Rattle.grammar_text.specs.Building.{sign_names}
use Rattle.grammar_text.specs.Seen.{declaration_seen}
use Rattle.grammar_text.proofs.WellFormedText.{grammar_is}
use Rattle.grammar_text.proofs.reader.grammar.declared_grammar.Goals as goal

pub returns : goal.returns
returns c =
    let all = map declaration_seen c.args.declared.now in
    let signs_are : c.deref.result.now ≡ c.new-2.result = rw c.new-2.ensures c.deref.ensures.value in
    grammar_is all c.new.result c.new-2.result c.new-3.result c.new-4.result c.axiom.result
    (rw c.new.ensures c.in_ok-classes.ensures) (rw c.new-2.ensures c.in_ok-signs.ensures)
    (c.new-3.ensures ∙ c.in_ok-algebras.ensures ∙ ap (λ l. declared_algebras (sign_names l) all) signs_are)
    (c.new-4.ensures ∙ c.in_ok-rules.ensures all c.requires.names) c.axiom.ensures
