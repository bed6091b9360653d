-- A search that passes over no cell meets what a search for the next cell that isn't noted promises.
use Rattle.std.proofs.Common.{◌≡◌, ◌⊎◌, inl, inr, Option, Some, None}
use Rattle.std.specs.Prelude.{MatchOption}
use Rattle.adp_model.specs.declared.cell.Cell.{Cell}
use Rattle.memo_model.specs.declared.visit.Position.{Position}
use Rattle.memo_model.specs.declared.visit.Visit.{Visit}
use Rattle.adp_model.specs.PosedProblem.{PosedProblem}
use Rattle.adp_model.specs.SplitArguments.{IsSplitArgument}
use Rattle.memo_model.specs.Visits.{argument_at}
use Rattle.argument_search.specs.Seeking.{IsNextSought, IsNoneSought}

abbrev Nothing : Cell → Type 0
Nothing cell = ⊥

next_so : (p : PosedProblem) (Noted : Cell → Type 0) (visit : Visit) (position : Position) (child : Cell)
    → IsNextSought p Nothing visit position child → IsNextSought p Noted visit position child
next_so p Noted visit position child next = record {
  asks = next.asks;
  behind = next.behind;
  before = λ argument other here asks e l. absurd (next.before argument other here asks e l);
  passed = λ argument other here asks e l. found other (next.passed argument other here asks e l);
}
  where
    found : (other : Cell) → ⊥ ⊎ (other ≡ child) → Noted other ⊎ (other ≡ child)
    found other (inl none) = absurd none
    found other (inr e) = inr e

pub nothing_passed : (p : PosedProblem) (Noted : Cell → Type 0) (visit : Visit) (result : Option (Position × Cell))
    → MatchOption result (IsNoneSought p (λ _. ⊥) visit)
    (λ found. IsSplitArgument p (argument_at visit.cell found.0) × IsNextSought p (λ _. ⊥) visit found.0 found.1)
    → MatchOption result (IsNoneSought p Noted visit)
    (λ found. IsSplitArgument p (argument_at visit.cell found.0) × IsNextSought p Noted visit found.0 found.1)
nothing_passed p Noted visit None none = λ argument other here asks e. absurd (none argument other here asks e)
nothing_passed p Noted visit (Some found) next = (next.0, next_so p Noted visit found.0 found.1 next.1)
