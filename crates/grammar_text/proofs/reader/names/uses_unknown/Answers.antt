use Rattle.std.proofs.Common.{not, refl, sym, ◌∙◌, ap}
use Rattle.grammar_text.specs.Names.{declares_its_variables}
use Rattle.grammar_text.specs.Seen.{declaration_seen}
use Rattle.grammar_text.proofs.reader.names.uses_unknown.Goals as goal
use Rattle.grammar_text.proofs.reader.names.uses_unknown.Goals.{then-has_sign, else-has_sign}

pub returns-after-has_sign : goal.returns-after-has_sign
returns-after-has_sign c = λ all are.
    let known = c.requires ∙ ap (λ d. declares_its_variables (declaration_seen d)) c.in-Let.is in
    elim c.if-has_sign.branch [
      | then-has_sign w ↦ rw (c.in-Let.is, sym (c.has_sign.ensures all are), w.if-has_sign.true) (ap not (w.result-is ∙ known))
      | else-has_sign w ↦ rw (c.in-Let.is, sym (c.has_sign.ensures all are), w.if-has_sign.false) (ap not (w.result-is ∙ w.if-has_sign.false))
    ]

pub returns-in-Axiom : goal.returns-in-Axiom
returns-in-Axiom c = λ all are. rw (c.in-Axiom.is, c.has_rule.ensures all are) refl
