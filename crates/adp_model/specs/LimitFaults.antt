-- Faults of a word's length under a checked grammar: the first limit that it passes, with the number that passes it.
use Rattle.std.specs.Prelude.{ℕ, ◌^◌, ◌<◌, ◌≤◌, min}
use Rattle.adp_model.specs.declared.fault.LimitFault.{LimitFault}
use Rattle.adp_model.specs.declared.grammar.Grammar.{Grammar}
use Rattle.adp_model.specs.Cells.{IsCellBound}
use Rattle.adp_model.specs.Bounds.{IsScoreBound, IsNodeBound}
use Rattle.adp_model.specs.ProblemFields.{most_letters, most_cells, most_nodes, greatest_score}

-- a number, told as 2^63 where it is more
abbrev pub told : ℕ → ℕ
told number = min number (2 ^ 63)

-- the cell bound keeps its limit
abbrev pub HasFewCells : Grammar → ℕ → Type 0
HasFewCells grammar len = (count : ℕ) × IsCellBound grammar len count × (count ≤ most_cells)

-- the node bound keeps its limit
abbrev pub HasFewNodes : Grammar → ℕ → Type 0
HasFewNodes grammar len = (number : ℕ) × IsNodeBound grammar len number × (number ≤ most_nodes)

-- the fault of words of this length
pub data IsLimitFault (grammar : Grammar) (algebra len : ℕ) : LimitFault → Type 0 where
  ManyLetters : most_letters < len → IsLimitFault grammar algebra len (record { kind = 1; number = told len })
  ManyCells : (count : ℕ) → len ≤ most_letters → IsCellBound grammar len count → most_cells < count
      → IsLimitFault grammar algebra len (record { kind = 2; number = told count })
  ManyNodes : (number : ℕ) → len ≤ most_letters → HasFewCells grammar len → IsNodeBound grammar len number
      → most_nodes < number
      → IsLimitFault grammar algebra len (record { kind = 3; number = told number })
  GreatScores : (number : ℕ) → len ≤ most_letters → HasFewCells grammar len → HasFewNodes grammar len
      → IsScoreBound grammar algebra len number → greatest_score < number
      → IsLimitFault grammar algebra len (record { kind = 4; number = told number })
