-- Entries that are settled while a list of the first so many is made: no more is to be done about them.
use Rattle.std.specs.Prelude.{◌≡◌, ℕ, ◌⊎◌, List, length}
use Rattle.std.specs.List.{AllByRecursion}
use Rattle.adp_model.specs.declared.grammar.Goal.{Goal}
use Rattle.first_trees.specs.FirstTrees.{IsAt}
use Rattle.first_trees.specs.Entries.{Entry, EntryPrecedes}

-- the entry stands in the list
abbrev pub IsListed : List Entry → Entry → Type 0
IsListed listed entry = (place : ℕ) × IsAt listed place entry

-- the list has `k` entries, and all of them come before this one
abbrev pub IsBehind : Goal → ℕ → List Entry → Entry → Type 0
IsBehind goal k listed entry =
    (length listed ≡ k) × AllByRecursion (λ other. EntryPrecedes goal other entry) listed

-- one of both
abbrev pub IsSettled : Goal → ℕ → List Entry → Entry → Type 0
IsSettled goal k listed entry = IsListed listed entry ⊎ IsBehind goal k listed entry

-- the other entry is the same, or one of both comes before the other
abbrev pub IsComparable : Goal → Entry → Entry → Type 0
IsComparable goal entry other = (other ≡ entry) ⊎ (EntryPrecedes goal other entry ⊎ EntryPrecedes goal entry other)
