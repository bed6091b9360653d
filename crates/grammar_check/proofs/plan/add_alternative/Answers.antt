use Rattle.std.proofs.Common.{length, ap, subst, arith}
use Rattle.grammar_check.specs.GrammarPlans.{HasFewLeaves}
use Rattle.grammar_check.proofs.plan.add_alternative.Goals as goal

pub add_wide-requires-clause-few : goal.add_wide-requires-clause-few
add_wide-requires-clause-few c = subst HasFewLeaves c.in-Some.ensures.wide c.requires.term

pub add-requires-clause-few : goal.add-requires-clause-few
add-requires-clause-few c = omega (arith, c.requires.few, c.args.parts.ok.0, ap length c.deref.ensures.value)
