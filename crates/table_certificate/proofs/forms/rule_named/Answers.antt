use Rattle.std.proofs.Common.{length, ap, arith}
use Rattle.table_certificate.proofs.NamedRules.{named_here, named_more, named_none}
use Rattle.table_certificate.proofs.forms.rule_named.Goals as goal

pub returns-then-is_named : goal.returns-then-is_named
returns-then-is_named c =
    named_here c.args.grammar.now c.args.name.now c.loop-number.number (omega (arith, c.loop-number-test.true, ap length c.as_slice-number-end.ensures)) c.loop-number.invariant (cc)

pub loop-number-preserved : goal.loop-number-preserved
loop-number-preserved c = named_more c.args.grammar.now c.args.name.now c.loop-number.number c.loop-number.invariant (cc)

pub returns : goal.returns
returns c =
    named_none c.args.grammar.now c.args.name.now c.loop-number.number (omega (arith, c.loop-number-test.false, c.loop-number.auto.number-end, ap length c.as_slice-number-end.ensures)) c.loop-number.invariant
