-- The posts of workers: what of a worker stays as it is.
use Rattle.std.specs.Prelude.{ℕ, zero, suc, List, [], ◌∷◌, ◌++◌}
use Rattle.adp_model.specs.PosedProblem.{PosedProblem}

-- the problem that it works on, the seed and the number by which its orders were drawn, and its pass's share
pub record Post : Type 0 where
  pub problem : PosedProblem
  pub seed : ℕ
  pub number : ℕ
  pub share : List ℕ

-- each pass stands for one, and none is left to be split off
abbrev pub post : PosedProblem → ℕ → ℕ → Post
post p seed number = record { problem = p; seed = seed; number = number; share = 1 ∷ 0 ∷ [] }

-- those of so many workers, in order of their numbers
abbrev pub posts_of : PosedProblem → ℕ → ℕ → List Post
posts_of p seed zero = []
posts_of p seed (suc count) = posts_of p seed count ++ post p seed count ∷ []
