-- Bounds of words as they are told: the number, or 2^63 where it is more.
use Rattle.std.specs.Prelude.{◌≡◌, ℕ}
use Rattle.adp_model.specs.declared.grammar.Grammar.{Grammar}
use Rattle.adp_model.specs.Bounds.{IsScoreBound, IsNodeBound}
use Rattle.adp_model.specs.LimitFaults.{told}

-- the number tells the score bound of words of this length
abbrev pub IsToldScoreBound : Grammar → ℕ → ℕ → ℕ → Type 0
IsToldScoreBound grammar algebra len number =
    (bound : ℕ) × IsScoreBound grammar algebra len bound × (number ≡ told bound)

-- the number tells the node bound of words of this length
abbrev pub IsToldNodeBound : Grammar → ℕ → ℕ → Type 0
IsToldNodeBound grammar len number = (bound : ℕ) × IsNodeBound grammar len bound × (number ≡ told bound)
