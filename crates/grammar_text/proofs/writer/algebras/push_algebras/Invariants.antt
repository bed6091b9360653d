use Rattle.std.proofs.Common.{◌≡◌, ◌++◌, take}
use Rattle.std.specs.List.{flat_map}
use Rattle.job_texts.specs.Spelling.{algebra_lines}
use Rattle.grammar_text.proofs.writer.algebras.push_algebras.Given as goal

abbrev pub invariant-loop-algebra : goal.invariant-loop-algebra
invariant-loop-algebra l =
    l.out.items ≡ l.initial.out.items ++ flat_map (algebra_lines l.signs) (take l.algebra-index l.algebras)
