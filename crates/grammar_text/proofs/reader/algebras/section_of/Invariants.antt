use Rattle.grammar_text.proofs.Sections.{IsEnd}
use Rattle.grammar_text.proofs.reader.algebras.section_of.Given as goal

abbrev pub invariant-loop-i : goal.invariant-loop-i
invariant-loop-i l = IsEnd l.below l.i
