use Rattle.std.proofs.Common.{◌≡◌, ◌++◌, length, take}
use Rattle.std.specs.List.{flat_map, zip}
use Rattle.job_texts.specs.Spelling.{let_line}
use Rattle.grammar_text.proofs.writer.algebras.push_lets.Given as goal

abbrev pub invariant-loop-sign : goal.invariant-loop-sign
invariant-loop-sign l =
    l.out.items ≡ l.initial.out.items ++ flat_map let_line (take (length l.yielded) (zip l.signs l.terms))
