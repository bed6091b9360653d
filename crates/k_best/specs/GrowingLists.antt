-- Lists that grow as far as they are asked for, over the best scores of a problem's cells.
use Rattle.std.specs.Prelude.{◌≡◌, ℕ, ◌<◌, ◌≤◌, ℤ, Option, IfSome, List, [], ◌∷◌, length}
use Rattle.std.specs.List.{AllByRecursion}
use Rattle.adp_model.specs.declared.cell.Cell.{Cell}
use Rattle.adp_model.specs.declared.cell.Choice.{Choice}
use Rattle.adp_model.specs.PosedProblem.{PosedProblem}
use Rattle.adp_model.specs.Parts.{arguments_of}
use Rattle.adp_model.specs.Demand.{IsDemanded}
use Rattle.adp_model.specs.Splits.{placed}
use Rattle.first_trees.specs.Entries.{Entry}
use Rattle.first_trees.specs.RankedSplits.{AreRankedValues, HasScoreAt, IsRankedSplit}
use Rattle.k_best.specs.declared.growing.Basis.{Basis}
use Rattle.k_best.specs.declared.growing.Growing.{Growing}
use Rattle.k_best.specs.declared.growing.Told.{Told}
use Rattle.k_best.specs.declared.growing.Told.TheVariants.{Score, Nothing, NotYet}
use Rattle.k_best.specs.declared.ranked.Ranked.{Ranked}
use Rattle.k_best.specs.declared.ranked.Ranked.TheVariants.{Found, Nowhere}
use Rattle.k_best.specs.Chosen.{ranks_of, values_of}
use Rattle.k_best.specs.Growing.{AreUnder, IsGrowing}
use Rattle.k_best.specs.RankedRows.{BeginWith}

-- the parts are of one problem, and at least one entry is asked for
pub record IsBasis (basis : Basis) : Type 0 where
  pub solved : basis.solved.now ≡ basis.lines.now
  pub places : basis.places ≡ basis.lines.now
  pub some : 0 < basis.k
  pub few : basis.k ≤ 64

-- the ranks of first trees
abbrev pub no_ranks : List ℕ
no_ranks = 0 ∷ 0 ∷ 0 ∷ 0 ∷ []

-- the list grows to that of its cell, which is demanded
pub record IsGrowingList (p : PosedProblem) (k : ℕ) (list : Growing) : Type 0 where
  pub demanded : IsDemanded p list.cell
  pub growing : IsGrowing p k list.cell list.found.items list.opened

-- all that are there do
abbrev pub AreGrowing : PosedProblem → ℕ → List (Option Growing) → Type 0
AreGrowing p k = AllByRecursion (λ list. IfSome list (IsGrowingList p k))

-- what is told of a place of a cell's list is so
abbrev pub IsTold : PosedProblem → ℕ → Cell → ℕ → Told → Type 0
IsTold p k cell rank (Score score) = HasScoreAt p k cell rank score
IsTold p k cell rank Nothing = (later : ℕ) (score : ℤ) → rank ≤ later → HasScoreAt p k cell later score → ⊥
IsTold p k cell rank NotYet = Unit {0}

-- the split has the first of these ranks and these values, or no ranked split of this choice has these ranks or greater
-- ones
abbrev pub IsRankedAt : PosedProblem → ℕ → Cell → Choice → List ℕ → Ranked → Type 0
IsRankedAt p k cell choice ranks (Found chosen) =
    BeginWith (ranks_of chosen) ranks
    × AreRankedValues p k (placed p cell choice.alt choice.cuts) (ranks_of chosen) (values_of chosen)
    × (chosen.valued ≡ length (arguments_of p.grammar cell.rule choice.alt)) × (chosen.ranked ≤ chosen.valued)
IsRankedAt p k cell choice ranks Nowhere =
    (entry : Entry) → IsRankedSplit p k cell entry → entry.choice ≡ choice → AreUnder ranks entry.ranks → ⊥
IsRankedAt p k cell choice ranks other = Unit {0}
