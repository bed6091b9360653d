-- The heads of an alternative, found argument by argument.
use Rattle.std.specs.Prelude.{◌≡◌, ℕ, ◌+◌, ◌-◌, ◌<◌, ◌≤◌, ℤ, List, [], ◌∷◌, ◌++◌, length, take, drop}
use Rattle.std.specs.List.{AllByRecursion}
use Rattle.adp_model.specs.declared.grammar.Arg.{Arg}
use Rattle.adp_model.specs.declared.grammar.Arg.TheVariants.{Rule}
use Rattle.adp_model.specs.declared.cell.Cell.{Cell}
use Rattle.adp_model.specs.PosedProblem.{PosedProblem, IsSpan}
use Rattle.adp_model.specs.Lengths.{AllowsLength}
use Rattle.adp_model.specs.Parts.{alternative_at, alternatives_of, arguments_of}
use Rattle.adp_model.specs.Splits.{Placed, FitsSpan, place, placed}
use Rattle.adp_model.specs.WellFormed.{IsKnown}
use Rattle.first_trees.specs.Entries.{Entry}
use Rattle.first_trees.specs.RankedSplits.{HasScoreAt, IsRankedSplit}
use Rattle.k_best.specs.Growing.{IsHeaded}
use Rattle.k_best.specs.GrowingLists.{no_ranks}

-- the argument is a rule whose cell on this span has no tree
abbrev pub IsTreeless : PosedProblem → ℕ → Placed → Type 0
IsTreeless p k placed = less placed.argument
  where
    less : Arg → Type 0
    less (Rule rule) = (rank : ℕ) (score : ℤ)
        → HasScoreAt p k (record { rule = rule; from = placed.from; to = placed.to }) rank score → ⊥
    less token = ⊥

-- the first arguments of an alternative end at the first so many of these cuts, on spans that they may have, and the
-- others are laid from `from` on; the further cuts stand at the cell's end
pub record IsLaid (p : PosedProblem) (cell : Cell) (alternative : ℕ) (cuts : List ℕ) (count : ℕ) (arguments : List Arg)
    (from : ℕ) : Type 0 where
  pub in_range : alternative < length (alternatives_of p.grammar cell.rule)
  pub allowed : AllowsLength (alternative_at p.grammar cell.rule alternative) (cell.to - cell.from)
  pub span : IsSpan p.word from cell.to
  pub known : AllByRecursion (IsKnown p.grammar) arguments
  pub few : count + length arguments ≤ 4
  pub as_many : count + length arguments ≡ length (arguments_of p.grammar cell.rule alternative)
  pub unlaid : AllByRecursion (λ cut. cut ≡ cell.to) (drop count cuts)
  pub first : List Placed
  pub fit : AllByRecursion (FitsSpan p) first
  pub laid : (others : List ℕ) → placed p cell alternative (take count cuts ++ others)
      ≡ first ++ place arguments from (others ++ cell.to ∷ [])

-- the heads are settled of all ranked splits whose cuts begin with these
abbrev pub AreHeadedBy : PosedProblem → ℕ → Cell → ℕ → List ℕ → List Entry → Type 0
AreHeadedBy p k cell alternative cuts found =
    (others : List ℕ) (entry : Entry) → IsRankedSplit p k cell entry
    → entry.choice ≡ record { alt = alternative; cuts = cuts ++ others } → IsHeaded p k cell no_ranks found entry
