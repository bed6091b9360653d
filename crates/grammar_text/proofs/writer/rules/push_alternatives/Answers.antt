use Rattle.std.proofs.Common.{arith}
use Rattle.std.proofs.lemmas.Grind.{common_steps}
use Rattle.grammar_text.proofs.writer.rules.push_alternatives.Goals as goal

pub returns-in_default : goal.returns-in_default
returns-in_default c = grind (arith, common_steps)

pub loop-alternative-init : goal.loop-alternative-init
loop-alternative-init c = grind (arith, common_steps)

pub loop-alternative-preserved : goal.loop-alternative-preserved
loop-alternative-preserved c = grind (arith, common_steps)

pub returns-after-loop-alternative : goal.returns-after-loop-alternative
returns-after-loop-alternative c = grind (arith, common_steps)
