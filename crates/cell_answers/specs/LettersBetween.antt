-- Lines of two rules with one letter between them.
use Rattle.std.specs.Prelude.{◌≡◌, ℕ, ◌+◌, ◌-◌, [], ◌∷◌}
use Rattle.std.specs.List.{Contains}
use Rattle.adp_model.specs.declared.grammar.Arg.TheVariants.{Letter}
use Rattle.adp_model.specs.PosedProblem.{PosedProblem}
use Rattle.adp_model.specs.Parts.{letters_of}
use Rattle.adp_model.specs.Tokens.{letters_between, total_weight}
use Rattle.score_numbers.specs.WeighedSums.{HaveWeights, weight_at}
use Rattle.cell_answers.specs.declared.letters_between.WeighedLine.{WeighedLine}
use Rattle.cell_answers.specs.declared.opened.OpenedLine.{OpenedLine}
use Rattle.cell_answers.specs.PlainLines.{positions_of}
use Rattle.cell_answers.specs.ScaledLines.{AreScaledRules}

-- the two arguments of open length are rules with these factors, turned, one letter stands between them, and there is
-- its weight at each position of the boundary
pub record IsWeighedLine (p : PosedProblem) (line : OpenedLine) (weighed : WeighedLine) : Type 0 where
  pub scaled : AreScaledRules line weighed.scales
  pub class : ℕ
  pub token : line.arguments.middle.now ≡ Letter class ∷ []
  pub factor : line.arguments.middle_factors.now ≡ weighed.weights.factor ∷ []
  pub have : HaveWeights weighed.weights (positions_of line)
  pub are : (position : ℕ) → Contains line.boundary.positions.now position
      → weight_at weighed.weights (position - line.row.first)
      ≡ total_weight (letters_of p.grammar class) (letters_between p.word position (position + line.boundary.letters))
