-- The limits of a job's words in a command: those under its algebra, or under two in order; and behind them, where the
-- first trees of each word are asked for, those of their lists.
use Rattle.std.specs.Prelude.{ℕ, ◌+◌, ◌≤◌, ◌⊎◌, ◌≡◌, List, [], ◌∷◌, length}
use Rattle.adp_model.specs.declared.grammar.Grammar.{Grammar}
use Rattle.adp_model.specs.declared.fault.LimitFault.{LimitFault}
use Rattle.first_trees.specs.ListLimits.{IsListLimitFault, KeepsListLimits}
use Rattle.verdicts.specs.Command.{Command}
use Rattle.verdicts.specs.SecondAlgebra.{IsLimitWith, KeepsLimitsWith}

-- a length keeps the limits of lists, where they are asked for
abbrev pub KeepsLimitsOfLists : ℕ → Grammar → ℕ → Type 0
KeepsLimitsOfLists best grammar len = 1 ≤ best → KeepsListLimits grammar len best

-- a length keeps the limits
abbrev pub KeepsLimitsIn : Command → Grammar → ℕ → ℕ → Type 0
KeepsLimitsIn command grammar algebra len =
    KeepsLimitsWith command.second grammar algebra len × KeepsLimitsOfLists command.best grammar len

-- the fault of a length
abbrev pub IsLimitIn : Command → Grammar → ℕ → ℕ → LimitFault → Type 0
IsLimitIn command grammar algebra len fault =
    IsLimitWith command.second grammar algebra len fault
    ⊎ (KeepsLimitsWith command.second grammar algebra len × IsListLimitFault grammar len command.best fault)

-- all of these words keep the limits
abbrev pub KeepLimits : Command → Grammar → ℕ → List (List ℕ) → Type 0
KeepLimits command grammar algebra [] = Unit {0}
KeepLimits command grammar algebra (word ∷ words) =
    KeepsLimitsIn command grammar algebra (length word) × KeepLimits command grammar algebra words

-- the first word that passes a limit has this number, counted on from the first of these words, and this is its fault
abbrev pub IsFirstLimit : Command → Grammar → ℕ → ℕ → List (List ℕ) → ℕ → LimitFault → Type 0
IsFirstLimit command grammar algebra number [] first fault = ⊥
IsFirstLimit command grammar algebra number (word ∷ words) first fault =
    ((first ≡ number) × IsLimitIn command grammar algebra (length word) fault)
    ⊎ (KeepsLimitsIn command grammar algebra (length word)
    × IsFirstLimit command grammar algebra (number + 1) words first fault)
