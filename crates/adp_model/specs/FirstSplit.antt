-- The first of a cell's splits, at scores of cells that are given and among splits that count.
use Rattle.std.specs.Prelude.{◌≡◌, ◌<◌, ℤ, ◌⊎◌, List, [], ◌∷◌}
use Rattle.adp_model.specs.declared.grammar.Arg.{Arg}
use Rattle.adp_model.specs.declared.grammar.Arg.TheVariants.{Rule}
use Rattle.adp_model.specs.declared.grammar.Goal.{Goal}
use Rattle.adp_model.specs.declared.cell.Answer.{Answer}
use Rattle.adp_model.specs.declared.cell.Answer.TheVariants.{NoCandidate, Best}
use Rattle.adp_model.specs.declared.cell.Cell.{Cell}
use Rattle.adp_model.specs.declared.cell.Choice.{Choice}
use Rattle.adp_model.specs.PosedProblem.{PosedProblem}
use Rattle.adp_model.specs.Parts.{algebra_of, term_of}
use Rattle.adp_model.specs.Tokens.{letters_between, token_value}
use Rattle.adp_model.specs.Terms.{term_value}
use Rattle.adp_model.specs.Scores.{IsBetter}
use Rattle.adp_model.specs.Preference.{LexicographicallyLess}
use Rattle.adp_model.specs.Splits.{Placed, placed, IsViable}

-- the value of an argument on its span: a score of the rule's cell, or what the token's letters are worth
abbrev pub IsValue : PosedProblem → (Cell → ℤ → Type 0) → Placed → ℤ → Type 0
IsValue p HasScore placed value = is_value placed.argument
  where
    is_value : Arg → Type 0
    is_value (Rule rule) = HasScore (record { rule = rule; from = placed.from; to = placed.to }) value
    is_value token = value ≡ token_value p.grammar token (letters_between p.word placed.from placed.to)

-- a value for each argument
abbrev pub AreArgumentValues : PosedProblem → (Cell → ℤ → Type 0) → List Placed → List ℤ → Type 0
AreArgumentValues p HasScore [] [] = Unit {0}
AreArgumentValues p HasScore [] (value ∷ values) = ⊥
AreArgumentValues p HasScore (placed ∷ others) [] = ⊥
AreArgumentValues p HasScore (placed ∷ others) (value ∷ values) =
    IsValue p HasScore placed value × AreArgumentValues p HasScore others values

-- a viable split whose rule arguments all have scores, with its own score at these
pub record IsScoredSplit (p : PosedProblem) (HasScore : Cell → ℤ → Type 0) (cell : Cell) (score : ℤ) (choice : Choice)
    : Type 0 where
  pub viable : IsViable p cell choice.alt choice.cuts
  pub values : List ℤ
  pub are_values : AreArgumentValues p HasScore (placed p cell choice.alt choice.cuts) values
  pub scored : score ≡ term_value (term_of p cell.rule choice.alt) values

-- by score, then by alternative, then by cuts
abbrev pub SplitPrecedes : Goal → ℤ → Choice → ℤ → Choice → Type 0
SplitPrecedes goal score choice score' choice' =
    IsBetter goal score score'
    ⊎ ((score ≡ score')
    × ((choice.alt < choice'.alt)
    ⊎ ((choice.alt ≡ choice'.alt) × LexicographicallyLess choice.cuts choice'.cuts)))

-- the first of the scored splits that count, or that none of them counts
abbrev pub IsFirstSplit : PosedProblem → (Cell → ℤ → Type 0) → (Choice → Type 0) → Cell → Answer → Type 0
IsFirstSplit p HasScore Counts cell NoCandidate =
    (score : ℤ) (choice : Choice) → Counts choice → IsScoredSplit p HasScore cell score choice → ⊥
IsFirstSplit p HasScore Counts cell (Best score choice) =
    Counts choice × IsScoredSplit p HasScore cell score choice
    × ((other_score : ℤ) (other : Choice) → Counts other → IsScoredSplit p HasScore cell other_score other
    → SplitPrecedes (algebra_of p).goal other_score other score choice → ⊥)
