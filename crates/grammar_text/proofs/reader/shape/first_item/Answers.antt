use Rattle.std.proofs.Common.{arith}
use Rattle.std.proofs.lemmas.Grind.{common_steps}
use Rattle.grammar_text.proofs.reader.shape.first_item.Goals as goal

pub returns-in_default : goal.returns-in_default
returns-in_default c = grind (arith, common_steps)

pub returns-in-Quoted : goal.returns-in-Quoted
returns-in-Quoted c = grind (arith, common_steps)

pub returns-in-Quoted-2 : goal.returns-in-Quoted-2
returns-in-Quoted-2 c = grind (arith, common_steps)
