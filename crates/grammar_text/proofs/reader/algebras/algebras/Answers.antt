use Rattle.std.proofs.Common.{arith}
use Rattle.std.proofs.lemmas.Grind.{common_steps}
use Rattle.grammar_text.proofs.Sections.{section_buildable, all_behind}
use Rattle.grammar_text.proofs.reader.algebras.algebras.Goals as goal

pub terms-requires : goal.terms-requires
terms-requires c = rw (c.section_of.ensures, all_behind) (section_buildable c.loop-rest.rest.now c.loop-rest.invariant.buildable)

pub loop-rest-init : goal.loop-rest-init
loop-rest-init c = grind (arith, common_steps)

pub loop-rest-preserved : goal.loop-rest-preserved
loop-rest-preserved c = grind (arith, common_steps)

pub returns : goal.returns
returns c = grind (arith, common_steps)
