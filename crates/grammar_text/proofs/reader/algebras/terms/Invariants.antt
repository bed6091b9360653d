use Rattle.std.proofs.Common.{◌≡◌, map, take}
use Rattle.job_texts.specs.JobText as texts
use Rattle.grammar_text.specs.Building.{sign_names}
use Rattle.grammar_text.specs.Seen.{declaration_seen}
use Rattle.grammar_text.proofs.reader.algebras.terms.Given as goal

abbrev pub invariant-loop-sign : goal.invariant-loop-sign
invariant-loop-sign l = l.terms.items ≡ map (texts.term_in (map declaration_seen l.section)) (sign_names (take l.sign-index l.signs))
