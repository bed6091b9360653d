-- The best score over all trees of a cell, and over all candidates of a word.
use Rattle.std.specs.Prelude.{◌≡◌, ℤ, Option, Some, None, List, [], ◌∷◌}
use Rattle.adp_model.specs.declared.cell.Cell.{Cell}
use Rattle.adp_model.specs.PosedProblem.{PosedProblem, axiom_cell}
use Rattle.adp_model.specs.Parts.{algebra_of}
use Rattle.adp_model.specs.Tree.{Tree}
use Rattle.adp_model.specs.Derivation.{Derives}
use Rattle.adp_model.specs.Scores.{score_of, IsBetter}

-- some tree is derived for the cell with this score, and none with a better one; nothing stands for no tree at all
abbrev pub IsBestScore : PosedProblem → Cell → Option ℤ → Type 0
IsBestScore p cell None = (tree : Tree) → Derives p cell tree → ⊥
IsBestScore p cell (Some score) =
    ((tree : Tree) × Derives p cell tree × (score ≡ score_of p tree))
    × ((tree : Tree) → Derives p cell tree → IsBetter (algebra_of p).goal (score_of p tree) score → ⊥)

-- of each problem the best score over all candidates; nothing stands exactly where there is none
abbrev pub AreBestScores : List PosedProblem → List (Option ℤ) → Type 0
AreBestScores [] values = values ≡ []
AreBestScores (p ∷ problems) [] = ⊥
AreBestScores (p ∷ problems) (value ∷ values) = IsBestScore p (axiom_cell p) value × AreBestScores problems values
