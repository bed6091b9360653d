-- A cell's list while it grows: its first ranked splits, as far as they were met.
use Rattle.std.specs.Prelude.{◌≡◌, ℕ, zero, suc, ◌<◌, ◌≤◌, ◌⊎◌, List, [], ◌∷◌}
use Rattle.std.specs.List.{AllZip}
use Rattle.adp_model.specs.declared.cell.Cell.{Cell}
use Rattle.adp_model.specs.declared.cell.Choice.{Choice}
use Rattle.adp_model.specs.PosedProblem.{PosedProblem}
use Rattle.adp_model.specs.Parts.{algebra_of}
use Rattle.first_trees.specs.FirstTrees.{IsAt}
use Rattle.first_trees.specs.Entries.{Entry, EntryPrecedes}
use Rattle.first_trees.specs.RankedSplits.{IsRankedSplit}
use Rattle.k_best.specs.Settled.{IsSettled}
use Rattle.k_best.specs.RankedRows.{BeginWith, IsListing}

-- from this place on stands an entry of the same viable split, none of whose ranks is greater
pub record IsLed (found : List Entry) (opened : ℕ) (entry : Entry) : Type 0 where
  pub place : ℕ
  pub leader : Entry
  pub unopened : opened ≤ place
  pub stands : IsAt found place leader
  pub choice : leader.choice ≡ entry.choice
  pub lower : AllZip ◌≤◌ leader.ranks entry.ranks

-- at most `k` ranked splits of the cell, in order, of which the first are opened: each other ranked split comes behind
-- all of `k`, or is led by one that isn't opened yet
pub record IsGrowing (p : PosedProblem) (k : ℕ) (cell : Cell) (found : List Entry) (opened : ℕ) : Type 0 where
  pub listing : IsListing p k cell found
  pub met : (entry : Entry) → IsRankedSplit p k cell entry
      → IsSettled (algebra_of p).goal k found entry ⊎ IsLed found opened entry

-- ---- splits that are met on the way

-- as far as both go, none of the other ranks is less than the one of these in its place
abbrev pub AreUnder : List ℕ → List ℕ → Type 0
AreUnder [] others = Unit {0}
AreUnder (rank ∷ ranks) [] = Unit {0}
AreUnder (rank ∷ ranks) (other ∷ others) = (rank ≤ other) × AreUnder ranks others

-- a ranked split is settled that has the entry's choice, the first of these ranks, and no rank that is greater
pub record IsHeaded (p : PosedProblem) (k : ℕ) (cell : Cell) (ranks : List ℕ) (found : List Entry) (entry : Entry)
    : Type 0 where
  pub head : Entry
  pub ranked : IsRankedSplit p k cell head
  pub settled : IsSettled (algebra_of p).goal k found head
  pub choice : head.choice ≡ entry.choice
  pub begins : BeginWith head.ranks ranks
  pub lower : AllZip ◌≤◌ head.ranks entry.ranks

-- so are all ranked splits with this choice and with no rank below these
abbrev pub AreHeaded : PosedProblem → ℕ → Cell → Choice → List ℕ → List Entry → Type 0
AreHeaded p k cell choice ranks found =
    (entry : Entry) → IsRankedSplit p k cell entry → entry.choice ≡ choice → AreUnder ranks entry.ranks
    → IsHeaded p k cell ranks found entry

-- what was settled is so still, and what comes before the split with this choice and these ranks stands where it stood
pub record IsMetKept (p : PosedProblem) (k : ℕ) (cell : Cell) (choice : Choice) (ranks : List ℕ) (old new : List Entry)
    : Type 0 where
  pub kept : (entry : Entry) → IsSettled (algebra_of p).goal k old entry → IsSettled (algebra_of p).goal k new entry
  pub front : (place : ℕ) (other : Entry) → IsAt old place other
      → ((entry : Entry) → IsRankedSplit p k cell entry → entry.choice ≡ choice → BeginWith entry.ranks ranks
      → EntryPrecedes (algebra_of p).goal other entry) → IsAt new place other

-- the rank at this place is greater by one
abbrev pub raised : ℕ → List ℕ → List ℕ
raised number [] = []
raised zero (rank ∷ ranks) = suc rank ∷ ranks
raised (suc number) (rank ∷ ranks) = rank ∷ raised number ranks

-- of the splits next to the entry those are met of which a rank before this place is greater by one
pub record IsOpened (p : PosedProblem) (k : ℕ) (cell : Cell) (first : Entry) (count : ℕ) (old new : List Entry)
    : Type 0 where
  pub listing : IsListing p k cell new
  pub kept : (entry : Entry) → IsSettled (algebra_of p).goal k old entry → IsSettled (algebra_of p).goal k new entry
  pub still : (place : ℕ) → IsAt old place first → IsAt new place first
  pub headed : (number : ℕ) → number < count → AreHeaded p k cell first.choice (raised number first.ranks) new
