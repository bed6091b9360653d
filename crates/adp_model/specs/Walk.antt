-- The order in which the viable splits of a cell's alternative are visited: by the ranks of their cuts.
use Rattle.std.specs.Prelude.{ℕ, ◌+◌, ◌-◌, ◌%◌, List, [], ◌∷◌}
use Rattle.adp_model.specs.declared.cell.Cell.{Cell}
use Rattle.adp_model.specs.PosedProblem.{PosedProblem}
use Rattle.adp_model.specs.Preference.{LexicographicallyLess}
use Rattle.adp_model.specs.Splits.{IsViable}

-- the rank of a position in the cell: how many places it comes behind the cell's start, turned by so many places
abbrev pub rank_of : Cell → ℕ → ℕ → ℕ
rank_of cell turn position = (position - cell.from + (cell.to - cell.from + 1) - turn) % (cell.to - cell.from + 1)

-- the ranks of the cuts, each turned by its own number
abbrev pub ranks_of : Cell → List ℕ → List ℕ → List ℕ
ranks_of cell turns [] = []
ranks_of cell [] (cut ∷ cuts) = []
ranks_of cell (turn ∷ turns) (cut ∷ cuts) = rank_of cell turn cut ∷ ranks_of cell turns cuts

-- the first cuts are visited before the second
abbrev pub IsVisitedBefore : Cell → List ℕ → List ℕ → List ℕ → Type 0
IsVisitedBefore cell turns cuts others = LexicographicallyLess (ranks_of cell turns cuts) (ranks_of cell turns others)

-- the viable split of the alternative that is visited first
pub record IsFirstVisited (p : PosedProblem) (cell : Cell) (alternative : ℕ) (turns cuts : List ℕ) : Type 0 where
  pub viable : IsViable p cell alternative cuts
  pub first : (others : List ℕ) → IsViable p cell alternative others → IsVisitedBefore cell turns others cuts → ⊥

-- the viable split that is visited next behind these cuts
pub record IsNextVisited (p : PosedProblem) (cell : Cell) (alternative : ℕ) (turns before cuts : List ℕ) : Type 0 where
  pub viable : IsViable p cell alternative cuts
  pub behind : IsVisitedBefore cell turns before cuts
  pub next : (others : List ℕ) → IsViable p cell alternative others → IsVisitedBefore cell turns before others
      → IsVisitedBefore cell turns others cuts → ⊥

-- no viable split of the alternative is visited behind these cuts
abbrev pub IsLastVisited : PosedProblem → Cell → ℕ → List ℕ → List ℕ → Type 0
IsLastVisited p cell alternative turns before =
    (others : List ℕ) → IsViable p cell alternative others → IsVisitedBefore cell turns before others → ⊥
