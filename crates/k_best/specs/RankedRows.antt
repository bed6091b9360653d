-- The ranked splits of one viable split, gone through rank by rank while a cell's list is made.
use Rattle.std.specs.Prelude.{◌≡◌, ℕ, ◌+◌, ◌≤◌, ℤ, List, [], ◌∷◌, ◌++◌, length}
use Rattle.std.specs.List.{AllByRecursion}
use Rattle.adp_model.specs.declared.grammar.Arg.{Arg}
use Rattle.adp_model.specs.declared.cell.Cell.{Cell}
use Rattle.adp_model.specs.declared.cell.Choice.{Choice}
use Rattle.adp_model.specs.PosedProblem.{PosedProblem}
use Rattle.adp_model.specs.Parts.{algebra_of, arguments_of}
use Rattle.adp_model.specs.Splits.{Placed, place, placed}
use Rattle.first_trees.specs.FirstTrees.{AreInOrder}
use Rattle.first_trees.specs.Entries.{Entry, EntryPrecedes}
use Rattle.first_trees.specs.RankedSplits.{AreRankedValues, IsRankedSplit}
use Rattle.k_best.specs.Settled.{IsSettled}

-- at most `k` ranked splits of the cell, in order
pub record IsListing (p : PosedProblem) (k : ℕ) (cell : Cell) (listed : List Entry) : Type 0 where
  pub few : length listed ≤ k
  pub hold : AllByRecursion (IsRankedSplit p k cell) listed
  pub in_order : AreInOrder (EntryPrecedes (algebra_of p).goal) listed

-- the other ranks begin with these
abbrev pub BeginWith : List ℕ → List ℕ → Type 0
BeginWith [] others = Unit {0}
BeginWith (rank ∷ ranks) [] = ⊥
BeginWith (rank ∷ ranks) (other ∷ others) = (rank ≡ other) × BeginWith ranks others

-- none of the other ranks is less than the one of these in its place
abbrev pub AreNotBelow : List ℕ → List ℕ → Type 0
AreNotBelow [] others = Unit {0}
AreNotBelow (rank ∷ ranks) [] = ⊥
AreNotBelow (rank ∷ ranks) (other ∷ others) = (rank ≤ other) × AreNotBelow ranks others

-- the ranked splits with this choice are settled whose ranks are such
abbrev pub AreSettled : PosedProblem → ℕ → Cell → Choice → (List ℕ → Type 0) → List Entry → Type 0
AreSettled p k cell choice Such listed =
    (entry : Entry) → IsRankedSplit p k cell entry → entry.choice ≡ choice → Such entry.ranks
    → IsSettled (algebra_of p).goal k listed entry

-- the first arguments of a viable split have these ranks and these values, and the others are laid from `from` on
pub record IsBegun (p : PosedProblem) (k : ℕ) (cell : Cell) (choice : Choice) (ranks : List ℕ) (values : List ℤ)
    (arguments : List Arg) (from : ℕ) (ends : List ℕ) : Type 0 where
  pub first : List Placed
  pub laid : placed p cell choice.alt choice.cuts ≡ first ++ place arguments from ends
  pub ranked : AreRankedValues p k first ranks values
  pub enough : length arguments ≤ length ends
  pub as_many : length values + length arguments ≡ length (arguments_of p.grammar cell.rule choice.alt)
