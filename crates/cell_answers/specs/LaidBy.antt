-- Arguments laid by ends that are given, and the first ends with which they have a total.
use Rattle.std.specs.Prelude.{◌≡◌, ℕ, ◌≤◌, ℤ, pos, ◌+ℤ◌, ◌*ℤ◌, List, [], ◌∷◌}
use Rattle.std.specs.List.{AllByRecursion}
use Rattle.adp_model.specs.declared.grammar.Arg.{Arg}
use Rattle.adp_model.specs.declared.cell.Cell.{Cell}
use Rattle.adp_model.specs.PosedProblem.{PosedProblem}
use Rattle.adp_model.specs.Preference.{LexicographicallyLess}
use Rattle.adp_model.specs.Splits.{FitsSpan}
use Rattle.adp_model.specs.FirstSplit.{IsValue}
use Rattle.adp_model.specs.Bellman.{HasBestScore}
use Rattle.viable_splits.specs.Placing.{on_span}
use Rattle.cell_answers.specs.Through.{HasTotalAt}

-- the arguments may have the letters from `from` to `to`, each up to its own of the ends, so that each factor times its
-- value, added up, is the total; ends that are left over stand at `to`
abbrev pub HasTotalBy : PosedProblem → (Cell → ℤ → Type 0) → List Arg → List ℤ → ℕ → ℕ → ℤ → List ℕ → Type 0
HasTotalBy p HasScore [] factors from to total ends =
    (from ≡ to) × AllByRecursion (λ end. end ≡ to) ends × (total ≡ pos 0)
HasTotalBy p HasScore (argument ∷ arguments) [] from to total ends = ⊥
HasTotalBy p HasScore (argument ∷ arguments) (factor ∷ factors) from to total [] = ⊥
HasTotalBy p HasScore (argument ∷ arguments) (factor ∷ factors) from to total (end ∷ ends) =
    (value : ℤ) × (rest : ℤ) × FitsSpan p (on_span argument from end)
    × IsValue p HasScore (on_span argument from end) value × HasTotalBy p HasScore arguments factors end to rest ends
    × (total ≡ ((factor *ℤ value) +ℤ rest))

-- the first ends with which they have it
pub record AreFirstEnds (p : PosedProblem) (arguments : List Arg) (factors : List ℤ) (from to : ℕ) (total : ℤ)
    (ends : List ℕ) : Type 0 where
  pub have : HasTotalBy p (HasBestScore p) arguments factors from to total ends
  pub first : (others : List ℕ) → HasTotalBy p (HasBestScore p) arguments factors from to total others
      → LexicographicallyLess others ends → ⊥

-- the first end of the first of the arguments with which they have it
pub record IsFirstEnd (p : PosedProblem) (arguments : List Arg) (factors : List ℤ) (from to : ℕ) (total : ℤ) (end : ℕ)
    : Type 0 where
  pub argument : Arg
  pub others : List Arg
  pub factor : ℤ
  pub more : List ℤ
  pub arguments_are : arguments ≡ argument ∷ others
  pub factors_are : factors ≡ factor ∷ more
  pub there : HasTotalAt p (HasBestScore p) argument others factor more from end to total
  pub first : (other : ℕ) → HasTotalAt p (HasBestScore p) argument others factor more from other to total
      → end ≤ other
