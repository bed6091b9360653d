-- The first split of an alternative, from the first of its arguments that may ask for a cell.
use Rattle.std.proofs.Common.{◌≡◌, ℕ, zero, suc, ◌+◌, ◌<◌, ◌≤◌, ◌⊎◌, inl, inr, true, List, length, refl, sym, subst, arith}
use Rattle.adp_model.specs.declared.cell.Cell.{Cell}
use Rattle.adp_model.specs.PosedProblem.{PosedProblem}
use Rattle.adp_model.specs.Parts.{arguments_of}
use Rattle.adp_model.specs.Splits.{IsViable}
use Rattle.adp_model.specs.SplitArguments.{SplitArgument, AsksFor}
use Rattle.adp_model.specs.Walk.{ranks_of}
use Rattle.memo_model.specs.declared.visit.Position.{Position}
use Rattle.memo_model.specs.declared.visit.Visit.{Visit}
use Rattle.memo_model.specs.Visits.{argument_at, is_before, IsWalk}
use Rattle.argument_search.specs.Seeking.{moved_to, turned_of, IsEntry, IsFirstLeft}
use Rattle.argument_search.proofs.SeekSteps.{walk_to}
use Rattle.argument_search.proofs.Walks.{first_from_is, next_in_split}

module _ (p : PosedProblem) (Noted : Cell → Type 0) (visit : Visit) (walk : IsWalk p visit)
    (three : length visit.turns ≡ 3)
    (apart : (alternative : ℕ) (cuts others : List ℕ) → IsViable p visit.cell alternative cuts
    → IsViable p visit.cell alternative others
    → ranks_of visit.cell visit.turns cuts ≡ ranks_of visit.cell visit.turns others → cuts ≡ others) where
  abbrev it : ℕ → List ℕ → ℕ → Position
  it alternative cuts number = record { alternative = alternative; cuts = cuts; number = number }

  -- past an argument that asks for no cell
  first_on : (from : ℕ) (at : Position) → IsFirstLeft p Noted visit from at
      → at.number + 1 < length (arguments_of p.grammar visit.cell.rule at.alternative)
      → ((child : Cell) → AsksFor p (argument_at visit.cell at) child → ⊥)
      → IsFirstLeft p Noted visit from (it at.alternative at.cuts (at.number + 1))
  first_on from at first more none =
      let next = next_in_split p Noted (moved_to visit at) (walk_to p visit walk at first.is_argument) three apart at
      refl more in
      record {
        is_argument = next.is_argument;
        behind = first.behind;
        first = λ a child here asks l. go a child here asks (first.first a child here asks l);
      }
    where
      go : (a : SplitArgument) (child : Cell) → a.cell ≡ visit.cell → AsksFor p a child
          → Noted child ⊎ ((a ≡ argument_at visit.cell at) ⊎ (is_before p visit (argument_at visit.cell at) a ≡ true))
          → Noted child ⊎ ((a ≡ argument_at visit.cell (it at.alternative at.cuts (at.number + 1)))
          ⊎ (is_before p visit (argument_at visit.cell (it at.alternative at.cuts (at.number + 1))) a ≡ true))
      go a child here asks (inl noted) = inl noted
      go a child here asks (inr (inl same)) = absurd (none child (subst (λ x. AsksFor p x child) same asks))
      go a child here asks (inr (inr before)) =
          (next_in_split p Noted (moved_to visit at) (walk_to p visit walk at first.is_argument) three apart at refl
          more).next a child here asks before

  pub first_entry : (from alternative : ℕ) (position : Position)
      → IsEntry p visit.cell alternative visit.turns position → from ≤ turned_of p visit alternative
      → ((a : SplitArgument) (child : Cell) → a.cell ≡ visit.cell → AsksFor p a child
      → from ≤ turned_of p visit a.alternative → turned_of p visit a.alternative < turned_of p visit alternative
      → Noted child)
      → IsFirstLeft p Noted visit from position
  first_entry from alternative position entry within noted_before =
      subst (IsFirstLeft p Noted visit from)
      (λ i. it (sym entry.here i) position.cuts position.number)
      (up_to position.number (omega arith))
    where
      up_to : (n : ℕ) → n ≤ position.number → IsFirstLeft p Noted visit from (it alternative position.cuts n)
      up_to zero l = first_from_is p Noted visit walk three apart from alternative position.cuts entry.first
          (let w = entry.within in omega arith) within noted_before
      up_to (suc n) l =
          let next : n + 1 ≡ suc n = omega arith in
          subst (λ k. IsFirstLeft p Noted visit from (it alternative position.cuts k)) next
          (first_on from (it alternative position.cuts n) (up_to n (omega arith))
          (let w = entry.within in omega arith) (λ child asks. entry.tokens n child (omega arith) asks))
