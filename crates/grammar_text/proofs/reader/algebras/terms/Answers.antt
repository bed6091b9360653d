use Rattle.std.proofs.Common.{map, ◌∙◌, ap}
use Rattle.adp_model.specs.declared.grammar.Sign as signs
use Rattle.job_texts.specs.JobText as texts
use Rattle.grammar_text.specs.Seen.{declaration_seen}
use Rattle.grammar_text.proofs.Built.{made_more}
use Rattle.grammar_text.proofs.reader.algebras.terms.Goals as goal

pub loop-sign-preserved : goal.loop-sign-preserved
loop-sign-preserved c =
    made_more (texts.term_in (map declaration_seen c.args.section.now)) (λ (sign : signs.Sign). sign.name) c.args.signs.now c.loop-sign.sign-index c.sign-item.result c.loop-sign.terms.items c.push.new.self.items c.in_ok-term_in.field-0
    c.loop-sign-test.true c.sign-item.is c.loop-sign.invariant (c.in_ok-term_in.ensures ∙ ap (λ n. texts.term_in (map declaration_seen c.args.section.now) n) c.bytes.ensures.bytes) c.in_ok-push.ensures.items
