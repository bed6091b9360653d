use Rattle.std.proofs.Common.{◌≡◌, ◌++◌, drop}
use Rattle.std.specs.Prelude.{codes}
use Rattle.job_texts.specs.Spelling.{separated, variables}
use Rattle.grammar_text.proofs.Variables.{further_variables}
use Rattle.grammar_text.proofs.writer.algebras.push_variables.Given as goal

abbrev pub invariant-loop-index : goal.invariant-loop-index
invariant-loop-index l =
    l.out.items ++ further_variables l.index (drop l.index l.kinds)
    ≡ l.initial.out.items ++ separated (λ name. name) (codes ", ") (variables 1 l.kinds)
