use Rattle.std.proofs.Common.{arith, refl}
use Rattle.std.proofs.Math.Seq.{take-length, drop-length}
use Rattle.std.proofs.lemmas.Grind.{common_steps}
use Rattle.grammar_text.proofs.reader.letters.push_closed.Goals as goal

pub loop-byte-init : goal.loop-byte-init
loop-byte-init c = record { kept = take-length _; found = rw drop-length refl }

pub returns-in-34-false : goal.returns-in-34-false
returns-in-34-false c = grind (arith, common_steps)

pub returns-in_default-true : goal.returns-in_default-true
returns-in_default-true c = grind (arith, common_steps)

pub loop-byte-preserved : goal.loop-byte-preserved
loop-byte-preserved c = grind (arith, common_steps)

pub returns : goal.returns
returns c = grind (arith, common_steps)
