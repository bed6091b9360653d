-- Lines whose totals are sums of numbers, each times its factor.
use Rattle.cell_answers.specs.declared.opened.OpenedLine.{OpenedLine}
use Rattle.score_numbers.specs.declared.sums.Scales.{Scales}
use Rattle.score_numbers.specs.Worthless.{AreWorthless}
use Rattle.cell_answers.specs.ArgumentEntries.{IsScaled}

-- the two arguments of open length are rules with these factors, turned, and the tokens between them add nothing
pub record IsScaledLine (line : OpenedLine) (scales : Scales) : Type 0 where
  pub worthless : AreWorthless line.arguments.middle.now line.arguments.middle_factors.now
  pub before : IsScaled line.arguments.first.now line.arguments.first_factor line.row.goal scales.before
  pub behind : IsScaled line.arguments.second.now line.arguments.second_factor line.column.goal scales.behind

-- the two arguments of open length are rules with these factors, turned
pub record AreScaledRules (line : OpenedLine) (scales : Scales) : Type 0 where
  pub before : IsScaled line.arguments.first.now line.arguments.first_factor line.row.goal scales.before
  pub behind : IsScaled line.arguments.second.now line.arguments.second_factor line.column.goal scales.behind
