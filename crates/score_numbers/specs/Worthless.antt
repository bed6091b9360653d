-- Tokens that add nothing to a total.
use Rattle.std.specs.Prelude.{◌≡◌, ℤ, pos, List, [], ◌∷◌}
use Rattle.adp_model.specs.declared.grammar.Arg.{Arg}
use Rattle.adp_model.specs.declared.grammar.Arg.TheVariants.{Literal}

-- the tokens add nothing to a total, whatever letters they match
abbrev pub IsWorthless : Arg → ℤ → Type 0
IsWorthless (Literal text) factor = Unit {0}
IsWorthless token factor = factor ≡ pos 0

abbrev pub AreWorthless : List Arg → List ℤ → Type 0
AreWorthless [] factors = Unit {0}
AreWorthless (token ∷ tokens) [] = Unit {0}
AreWorthless (token ∷ tokens) (factor ∷ factors) = IsWorthless token factor × AreWorthless tokens factors
