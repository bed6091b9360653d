-- A search that has gone on along a line, with its next argument behind that.
use Rattle.std.proofs.Common.{◌≡◌, ℕ, ◌⊎◌, inl, inr, Bool, true, false, Option, Some, None, refl, sym, subst, ap, ◌∙◌}
use Rattle.std.specs.Prelude.{MatchOption}
use Rattle.adp_model.specs.declared.cell.Cell.{Cell}
use Rattle.memo_model.specs.declared.visit.Position.{Position}
use Rattle.memo_model.specs.declared.visit.Visit.{Visit}
use Rattle.adp_model.specs.PosedProblem.{PosedProblem}
use Rattle.adp_model.specs.SplitArguments.{SplitArgument, AsksFor}
use Rattle.memo_model.specs.Visits.{visited_at, is_before, is_behind, is_behind_position, argument_at}
use Rattle.argument_search.specs.Seeking.{moved_to, IsFirstLeft, IsNextLeft, IsNoneLeft, IsNoneSought}
use Rattle.argument_search.specs.Skipping.{IsSkipped}
use Rattle.argument_search.proofs.VisitOrder.{less_transitive}

module _ (p : PosedProblem) (Noted : Cell → Type 0) (visit : Visit) (at to : Position) (is : visit.at ≡ Some at)
    (skipped : IsSkipped p Noted visit at to) where
  behind_is : (argument : SplitArgument)
      → is_behind p visit argument ≡ is_before p visit (argument_at visit.cell at) argument
  behind_is argument = ap (λ (o : Option Position). is_behind_position p visit o argument) is

  behind_from : (argument : SplitArgument) → is_before p visit (argument_at visit.cell to) argument ≡ true
      → is_behind p visit argument ≡ true
  behind_from argument e = go skipped.on
    where
      go : (to ≡ at) ⊎ (is_before p visit (argument_at visit.cell at) (argument_at visit.cell to) ≡ true)
          → is_behind p visit argument ≡ true
      go (inl same) =
          behind_is argument
          ∙ subst (λ (q : Position). is_before p visit (argument_at visit.cell q) argument ≡ true) same e
      go (inr less) =
          behind_is argument
          ∙ less_transitive (visited_at p visit (argument_at visit.cell at))
          (visited_at p visit (argument_at visit.cell to)) (visited_at p visit argument) less e

  none_on : IsNoneSought p Noted (moved_to visit to) → IsNoneSought p Noted visit
  none_on none argument child here asks behind = go (is_before p visit (argument_at visit.cell to) argument) refl
    where
      go : (b : Bool) → is_before p visit (argument_at visit.cell to) argument ≡ b → Noted child
      go true e = none argument child here asks e
      go false e = skipped.passed argument child here asks (sym (behind_is argument) ∙ behind) e

  pub next_on : (position : Position) → IsNextLeft p Noted (moved_to visit to) position
      → IsNextLeft p Noted visit position
  next_on position found = record {
    is_argument = found.is_argument;
    behind = behind_from (argument_at visit.cell position) found.behind;
    next = λ argument child here asks behind. go argument child here asks behind
        (is_before p visit (argument_at visit.cell to) argument) refl;
  }
    where
      go : (argument : SplitArgument) (child : Cell) → argument.cell ≡ visit.cell → AsksFor p argument child
          → is_behind p visit argument ≡ true → (b : Bool)
          → is_before p visit (argument_at visit.cell to) argument ≡ b
          → Noted child ⊎ ((argument ≡ argument_at visit.cell position)
          ⊎ (is_before p visit (argument_at visit.cell position) argument ≡ true))
      go argument child here asks behind true e = found.next argument child here asks e
      go argument child here asks behind false e =
          inl (skipped.passed argument child here asks (sym (behind_is argument) ∙ behind) e)

  pub option_on : (found : Option Position)
      → MatchOption found (IsNoneSought p Noted (moved_to visit to)) (IsNextLeft p Noted (moved_to visit to))
      → MatchOption found (IsNoneSought p Noted visit) (IsNextLeft p Noted visit)
  option_on None it = none_on it
  option_on (Some position) it = next_on position it

  pub option_first : (from : ℕ) (found : Option Position)
      → MatchOption found (IsNoneLeft p Noted visit from) (IsFirstLeft p Noted visit from)
      → MatchOption found (IsNoneLeft p Noted (moved_to visit to) from) (IsFirstLeft p Noted (moved_to visit to) from)
  option_first from None it = it
  option_first from (Some position) it =
      record { is_argument = it.is_argument; behind = it.behind; first = it.first }
