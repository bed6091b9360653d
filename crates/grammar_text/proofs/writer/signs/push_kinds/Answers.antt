use Rattle.std.proofs.Common.{arith}
use Rattle.std.proofs.lemmas.Grind.{common_steps}
use Rattle.grammar_text.proofs.writer.signs.push_kinds.Goals as goal

pub returns-in_default : goal.returns-in_default
returns-in_default c = grind (arith, common_steps)

pub loop-kind-init : goal.loop-kind-init
loop-kind-init c = grind (arith, common_steps)

pub loop-kind-preserved : goal.loop-kind-preserved
loop-kind-preserved c = grind (arith, common_steps)

pub returns-after-loop-kind : goal.returns-after-loop-kind
returns-after-loop-kind c = grind (arith, common_steps)
