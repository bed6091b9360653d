-- Straight grammars: those with alternatives of tokens of fixed length, and behind them nothing more or one rule.
use Rattle.std.specs.Prelude.{◌≡◌, ℕ, ◌<◌, List, [], ◌∷◌, length}
use Rattle.adp_model.specs.declared.grammar.Arg.{Arg}
use Rattle.adp_model.specs.declared.grammar.Arg.TheVariants.{Rule, Literal, Letter, Run}
use Rattle.adp_model.specs.PosedProblem.{PosedProblem}
use Rattle.adp_model.specs.Parts.{alternatives_of, arguments_of}

-- nothing stands behind a rule, and the other arguments are tokens of fixed length
abbrev pub IsStraight : List Arg → Type 0
IsStraight [] = Unit {0}
IsStraight (Rule rule ∷ others) = length others ≡ 0
IsStraight (Literal text ∷ others) = IsStraight others
IsStraight (Letter class ∷ others) = IsStraight others
IsStraight (Run class low high ∷ others) = ⊥

-- the first so many alternatives of a rule are straight
abbrev pub AreStraightUpTo : PosedProblem → ℕ → ℕ → Type 0
AreStraightUpTo p rule count =
    (alternative : ℕ) → alternative < count → IsStraight (arguments_of p.grammar rule alternative)

-- all alternatives are
abbrev pub AreStraight : PosedProblem → Type 0
AreStraight p =
    (rule alternative : ℕ) → alternative < length (alternatives_of p.grammar rule)
    → IsStraight (arguments_of p.grammar rule alternative)
