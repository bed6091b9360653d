use Rattle.std.proofs.Common.{◌≡◌, [], ◌++◌, take, drop}
use Rattle.job_texts.specs.TermText.{factors_after}
use Rattle.algebra_terms.specs.Reading.{parts_seen}
use Rattle.algebra_terms.proofs.Declared.{HasLeft}
use Rattle.algebra_terms.proofs.read.term_of_parts.Given as goal

-- the factors so far and those of the variables that are left, and what is left in the map
abbrev pub invariant-loop-variable : goal.invariant-loop-variable
invariant-loop-variable l = record {
  factors : l.factors.items ++ factors_after (take l.variable-index l.vars) (drop l.variable-index l.vars) (parts_seen l.parts) ≡ factors_after [] l.vars (parts_seen l.parts);
  left : HasLeft l.totals (take l.variable-index l.vars) (parts_seen l.parts);
}
