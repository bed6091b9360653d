-- The limits of the lists of a word's first trees, which stand behind the limits of the word itself: how many trees they
-- may list in all cells, and how many nodes the trees that are written may have.
use Rattle.std.specs.Prelude.{ℕ, ◌*◌, ◌<◌, ◌≤◌}
use Rattle.adp_model.specs.declared.grammar.Grammar.{Grammar}
use Rattle.adp_model.specs.declared.fault.LimitFault.{LimitFault}
use Rattle.adp_model.specs.Cells.{IsCellBound}
use Rattle.adp_model.specs.Bounds.{IsNodeBound}

-- the most trees that all lists of a word may have, and the most nodes that its listed candidates may have
abbrev pub most_listed : ℕ
most_listed = 4194304

-- the most trees of a list
abbrev pub most_first_trees : ℕ
most_first_trees = 64

-- the cell bound times `k` keeps its limit
abbrev pub HasFewListed : Grammar → ℕ → ℕ → Type 0
HasFewListed grammar len k = (count : ℕ) × IsCellBound grammar len count × (count * k ≤ most_listed)

-- a length keeps the limits of lists of `k` trees
pub record KeepsListLimits (grammar : Grammar) (len k : ℕ) : Type 0 where
  pub cells : HasFewListed grammar len k
  pub nodes : (number : ℕ) × IsNodeBound grammar len number × (number * k ≤ most_listed)

-- the fault of words of this length, of which lists of `k` trees are asked for, with the product that passes its limit
pub data IsListLimitFault (grammar : Grammar) (len k : ℕ) : LimitFault → Type 0 where
  ManyListed : (count : ℕ) → IsCellBound grammar len count → most_listed < count * k
      → IsListLimitFault grammar len k (record { kind = 5; number = count * k })
  ManyListedNodes : (number : ℕ) → HasFewListed grammar len k → IsNodeBound grammar len number
      → most_listed < number * k → IsListLimitFault grammar len k (record { kind = 6; number = number * k })
