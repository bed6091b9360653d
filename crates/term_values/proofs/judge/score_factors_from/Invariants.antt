use Rattle.std.proofs.Common.{◌↔◌, drop}
use Rattle.adp_model.specs.TermSigns.{ScoreFactorsFrom}
use Rattle.term_values.proofs.judge.score_factors_from.Given as goal

-- what is left decides
abbrev pub invariant-loop-i : goal.invariant-loop-i
invariant-loop-i l = ScoreFactorsFrom l.least l.factors l.kinds ↔ ScoreFactorsFrom l.least (drop l.i l.factors) (drop l.i l.kinds)
