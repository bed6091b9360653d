-- Scores turned, so that a better one is greater.
use Rattle.std.specs.Prelude.{ℤ, neg_ℤ}
use Rattle.adp_model.specs.declared.grammar.Goal.{Goal}
use Rattle.adp_model.specs.declared.grammar.Goal.TheVariants.{Least, Greatest}

-- the number with its sign turned where the least is best: so turned, a better number is greater
abbrev pub turned : Goal → ℤ → ℤ
turned Least number = neg_ℤ number
turned Greatest number = number
