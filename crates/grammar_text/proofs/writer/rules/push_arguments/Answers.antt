use Rattle.std.proofs.Common.{arith}
use Rattle.std.proofs.lemmas.Grind.{common_steps}
use Rattle.grammar_text.proofs.writer.rules.push_arguments.Goals as goal

pub returns-in_default : goal.returns-in_default
returns-in_default c = grind (arith, common_steps)

pub loop-argument-init : goal.loop-argument-init
loop-argument-init c = grind (arith, common_steps)

pub loop-argument-preserved : goal.loop-argument-preserved
loop-argument-preserved c = grind (arith, common_steps)

pub returns-after-loop-argument : goal.returns-after-loop-argument
returns-after-loop-argument c = grind (arith, common_steps)
