-- The order of preference by two algebras in order: the first one's scores count first, and among equal ones the
-- second's. All else is as in the order by one algebra.
use Rattle.std.specs.Prelude.{◌≡◌, ℕ, ℤ, ◌⊎◌}
use Rattle.adp_model.specs.declared.grammar.Goal.{Goal}
use Rattle.adp_model.specs.declared.cell.Cell.{Cell}
use Rattle.adp_model.specs.PosedProblem.{PosedProblem}
use Rattle.adp_model.specs.Parts.{algebra_of}
use Rattle.adp_model.specs.Tree.{Tree}
use Rattle.adp_model.specs.Derivation.{Derives}
use Rattle.adp_model.specs.Scores.{score_of, IsBetter}
use Rattle.adp_model.specs.Preference.{Precedes}

-- what is asked under another algebra of the grammar, by its number
abbrev pub under : ℕ → PosedProblem → PosedProblem
under algebra p = record { grammar = p.grammar; algebra = algebra; word = p.word }

-- the score of a tree under the problem's algebra, and its score under the second one
abbrev pub scores_of : PosedProblem → ℕ → Tree → ℤ × ℤ
scores_of p second tree = (score_of p tree, score_of (under second p) tree)

-- the first score is better; or the first scores are equal, and the second is better
abbrev pub IsBetterPair : Goal → Goal → ℤ × ℤ → ℤ × ℤ → Type 0
IsBetterPair goal goal' scores scores' =
    IsBetter goal scores.0 scores'.0 ⊎ ((scores.0 ≡ scores'.0) × IsBetter goal' scores.1 scores'.1)

-- the order of preference by both scores: they are equal where both are
abbrev pub IsPairBefore : PosedProblem → ℕ → Tree → Tree → Type 0
IsPairBefore p second =
    Precedes (IsBetterPair (algebra_of p).goal (algebra_of (under second p)).goal) (scores_of p second)

-- the tree is derived for the cell, and no other tree that is derived for it is before this one by both scores
pub record IsPairPreferred (p : PosedProblem) (second : ℕ) (cell : Cell) (tree : Tree) : Type 0 where
  pub derived : Derives p cell tree
  pub first : (other : Tree) → Derives p cell other → IsPairBefore p second other tree → ⊥
