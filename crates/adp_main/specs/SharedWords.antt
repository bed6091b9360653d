-- What words have in common, where it is worked out for all of them.
use Rattle.std.specs.Prelude.{◌≡◌, Option, IfSome}
use Rattle.adp_model.specs.PosedProblem.{PosedProblem}

-- what is shared, if it is, is of this problem without a word
abbrev pub IsSharedOf : PosedProblem → Option PosedProblem → Type 0
IsSharedOf problem shared = IfSome shared (λ it. it ≡ problem)
