use Rattle.std.proofs.Common.{◌≡◌, ◌++◌, ◌+◌, drop}
use Rattle.job_texts.specs.Spelling.{factors_text}
use Rattle.grammar_text.proofs.writer.algebras.push_factors.Given as goal

abbrev pub invariant-loop-index : goal.invariant-loop-index
invariant-loop-index l =
    l.out.items ++ factors_text (l.index + 1) (drop l.index l.factors) ≡ l.initial.out.items ++ factors_text 1 l.factors
