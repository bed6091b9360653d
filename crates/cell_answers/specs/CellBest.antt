-- The best score of a cell and the first alternative that gives it.
use Rattle.std.specs.Prelude.{ℕ, ◌<◌, ℤ, ◌≤ℤ◌, Option, MatchOption, List}
use Rattle.adp_model.specs.declared.cell.Answer.TheVariants.{Best}
use Rattle.adp_model.specs.declared.cell.Cell.{Cell}
use Rattle.adp_model.specs.PosedProblem.{PosedProblem}
use Rattle.adp_model.specs.Answers.{IsAnswer}
use Rattle.cell_answers.specs.declared.filling.Best as declared
use Rattle.cell_answers.specs.Totals.{HasTurnedScore}

-- all of the cell's answer but its cuts
abbrev pub IsCellBest : PosedProblem → Cell → ℤ → ℕ → Type 0
IsCellBest p cell score alternative =
    (cuts : List ℕ) × IsAnswer p cell (Best score (record { alt = alternative; cuts = cuts }))

-- none of the first so many alternatives gives the cell a score
abbrev pub GiveNone : PosedProblem → Cell → ℕ → Type 0
GiveNone p cell count = (other : ℕ) (number : ℤ) → other < count → HasTurnedScore p cell other number → ⊥

-- of the first so many alternatives this is the first that gives the greatest score, turned
pub record IsFirstGiving (p : PosedProblem) (cell : Cell) (count : ℕ) (score : ℤ) (alternative : ℕ) : Type 0 where
  pub before : alternative < count
  pub gives : HasTurnedScore p cell alternative score
  pub greatest : (other : ℕ) (number : ℤ) → other < count → HasTurnedScore p cell other number → number ≤ℤ score
  pub first : (other : ℕ) → other < alternative → HasTurnedScore p cell other score → ⊥

-- what the first so many alternatives give at best
abbrev pub IsBestOfFirst : PosedProblem → Cell → ℕ → Option declared.Best → Type 0
IsBestOfFirst p cell count best =
    MatchOption best (GiveNone p cell count) (λ it. IsFirstGiving p cell count it.score it.alt)
