use Rattle.std.proofs.Common.{◌≡◌, ◌++◌, true, length, map}
use Rattle.job_texts.specs.JobText as texts
use Rattle.grammar_text.specs.Building.{are_buildable, sign_names}
use Rattle.grammar_text.specs.Seen.{declaration_seen}
use Rattle.grammar_text.proofs.reader.algebras.algebras.Given as goal

abbrev pub invariant-loop-rest : goal.invariant-loop-rest
invariant-loop-rest l = record {
  buildable : are_buildable (map declaration_seen l.rest) ≡ true;
  built : l.algebras.items ++ texts.declared_algebras (sign_names l.signs) (map declaration_seen l.rest)
      ≡ texts.declared_algebras (sign_names l.signs) (map declaration_seen l.declared);
}

abbrev pub decreases-loop-rest : goal.decreases-loop-rest
decreases-loop-rest l = length l.rest
