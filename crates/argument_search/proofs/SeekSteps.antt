-- What a walk has passed, from argument to argument.
use Rattle.std.proofs.Common.{◌≡◌, ℕ, zero, suc, ◌<◌, ◌⊎◌, inl, inr, Bool, true, false, Option, Some, List, [], ◌∷◌, length, refl, sym, subst, ap, ◌∙◌, arith}
use Rattle.std.specs.Prelude.{slice_get}
use Rattle.std.proofs.lemmas.Bool.{false≢true}
use Rattle.std.proofs.lemmas.Option.{same_Some}
use Rattle.adp_model.specs.declared.grammar.Arg.{Arg}
use Rattle.adp_model.specs.declared.grammar.Arg.TheVariants.{Rule}
use Rattle.adp_model.specs.declared.cell.Cell.{Cell}
use Rattle.adp_model.specs.PosedProblem.{PosedProblem}
use Rattle.adp_model.specs.Parts.{arguments_of}
use Rattle.adp_model.specs.Splits.{Placed, place, ends_by}
use Rattle.memo_model.specs.declared.visit.Position.{Position}
use Rattle.memo_model.specs.declared.visit.Visit.{Visit}
use Rattle.adp_model.specs.SplitArguments.{SplitArgument, AsksFor, IsSplitArgument}
use Rattle.memo_model.specs.Visits.{visited_at, is_before, is_behind, is_behind_position, argument_at, IsWalk}
use Rattle.argument_search.specs.Seeking.{moved_to, IsNextLeft, IsNextSought, IsNoneSought}
use Rattle.argument_search.proofs.VisitOrder.{behind_moved, less_transitive, less_irreflexive}

placed_within : (arguments : List Arg) (from : ℕ) (ends : List ℕ) (k : ℕ) (it : Placed)
    → slice_get (place arguments from ends) k ≡ Some it → k < length arguments
placed_within [] from ends k it e = cc
placed_within (argument ∷ arguments) from [] k it e = cc
placed_within (argument ∷ arguments) from (to ∷ ends) zero it e = omega arith
placed_within (argument ∷ arguments) from (to ∷ ends) (suc k) it e = let l = placed_within arguments to ends k it e in
    omega arith

pub split_of : (p : PosedProblem) (argument : SplitArgument) (child : Cell) → AsksFor p argument child
    → IsSplitArgument p argument
split_of p argument child asks = record {
  viable = asks.viable;
  within = placed_within (arguments_of p.grammar argument.cell.rule argument.alternative) argument.cell.from
      (ends_by argument.cell argument.cuts) argument.number _ asks.there;
}

pub asks_one : (p : PosedProblem) (argument : SplitArgument) (a b : Cell) → AsksFor p argument a → AsksFor p argument b
    → a ≡ b
asks_one p argument a b asks asks' =
    let x : Placed = record { argument = Rule a.rule; from = a.from; to = a.to } in
    let y : Placed = record { argument = Rule b.rule; from = b.from; to = b.to } in
    let e : x ≡ y = same_Some x y (sym asks.there ∙ asks'.there) in
    let r : a.rule ≡ b.rule = rules_same a.rule b.rule (ap (λ (z : Placed). z.argument) e) in
    let f : a.from ≡ b.from = ap (λ (z : Placed). z.from) e in
    let t : a.to ≡ b.to = ap (λ (z : Placed). z.to) e in
    λ i. record { rule = r i; from = f i; to = t i }
  where
    rules_same : (m n : ℕ) → Rule m ≡ Rule n → m ≡ n
    rules_same m n e = cc

-- a walk that has come to an argument
pub walk_to : (p : PosedProblem) (visit : Visit) → IsWalk p visit → (position : Position)
    → IsSplitArgument p (argument_at visit.cell position) → IsWalk p (moved_to visit position)
walk_to p visit walk position is = record {
  first = walk.first;
  three = walk.three;
  turns = walk.turns;
  at = λ q e. subst (λ (x : Position). IsSplitArgument p (argument_at visit.cell x)) (same_Some position q e) is;
}

module _ (p : PosedProblem) (Noted : Cell → Type 0) (visit : Visit) (at : Option Position) where
  abbrev now : Visit
  now = record { cell = visit.cell; first = visit.first; turns = visit.turns; at = at }

  abbrev Passed : Option Position → Type 0
  Passed to = (argument : SplitArgument) (child : Cell) → argument.cell ≡ visit.cell → AsksFor p argument child
      → is_behind p visit argument ≡ true → is_behind_position p visit to argument ≡ false → Noted child

  abbrev On : Option Position → Type 0
  On to = (argument : SplitArgument) → is_behind_position p visit to argument ≡ true → is_behind p visit argument ≡ true

  pub none_sought : IsNoneSought p Noted now → Passed at → IsNoneSought p Noted visit
  none_sought noted passed argument child here asks behind = go (is_behind_position p visit at argument) refl
    where
      go : (b : Bool) → is_behind_position p visit at argument ≡ b → Noted child
      go true e = noted argument child here asks e
      go false e = passed argument child here asks behind e

  module _ (position : Position) (next : IsNextLeft p Noted now position) where
    abbrev there : SplitArgument
    there = argument_at visit.cell position

    pub on_more : On at → On (Some position)
    on_more on argument e = on argument (behind_moved p now position next.behind argument e)

    pub passed_more : ((child : Cell) → AsksFor p there child → Noted child) → Passed at → Passed (Some position)
    passed_more noted passed argument child here asks behind e = go (is_behind_position p visit at argument) refl
      where
        found : Noted child ⊎ ((argument ≡ argument_at visit.cell position) ⊎
            (is_before p visit (argument_at visit.cell position) argument ≡ true)) → Noted child
        found (inl known) = known
        found (inr (inl same)) = noted child (subst (λ x. AsksFor p x child) same asks)
        found (inr (inr before)) = absurd (false≢true (sym e ∙ before))

        go : (b : Bool) → is_behind_position p visit at argument ≡ b → Noted child
        go true f = found (next.next argument child here asks f)
        go false f = passed argument child here asks behind f

    pub next_sought : (child : Cell) → AsksFor p there child → On at → Passed at
        → IsNextSought p Noted visit position child
    next_sought child asks on passed = record {
      asks = asks;
      behind = on there next.behind;
      before = λ argument other here asking behind l. before argument other here asking behind l
          (is_behind_position p visit at argument) refl;
      passed = λ argument other here asking behind l. passing argument other here asking behind l
          (is_behind_position p visit at argument) refl;
    }
      where
        not_both : (argument : SplitArgument) → is_before p visit argument (argument_at visit.cell position) ≡ true
            → (argument ≡ argument_at visit.cell position) ⊎
            (is_before p visit (argument_at visit.cell position) argument ≡ true) → ⊥
        not_both argument l (inl same) =
            false≢true (sym (less_irreflexive (visited_at p visit (argument_at visit.cell position))) ∙ subst
            (λ x. is_before p visit x (argument_at visit.cell position) ≡ true) same l)
        not_both argument l (inr m) =
            false≢true (sym (less_irreflexive (visited_at p visit argument)) ∙ less_transitive
            (visited_at p visit argument) (visited_at p visit (argument_at visit.cell position))
            (visited_at p visit argument) l m)

        before : (argument : SplitArgument) (other : Cell) → argument.cell ≡ visit.cell → AsksFor p argument other
            → is_behind p visit argument ≡ true
            → is_before p visit argument (argument_at visit.cell position) ≡ true → (b : Bool)
            → is_behind_position p visit at argument ≡ b → Noted other
        before argument other here asking behind l true e =
            earlier (next.next argument other here asking e)
          where
            earlier : Noted other ⊎ ((argument ≡ argument_at visit.cell position) ⊎
                (is_before p visit (argument_at visit.cell position) argument ≡ true)) → Noted other
            earlier (inl known) = known
            earlier (inr not_before) = absurd (not_both argument l not_before)
        before argument other here asking behind l false e = passed argument other here asking behind e

        found : (argument : SplitArgument) (other : Cell) → AsksFor p argument other
            → is_behind p (moved_to visit position) argument ≡ false
            → Noted other ⊎ ((argument ≡ argument_at visit.cell position) ⊎
            (is_before p visit (argument_at visit.cell position) argument ≡ true)) → Noted other ⊎ (other ≡ child)
        found argument other asking l (inl known) = inl known
        found argument other asking l (inr (inl same)) =
            inr
            (asks_one p (argument_at visit.cell position) other child
            (subst (λ x. AsksFor p x other) same asking) asks)
        found argument other asking l (inr (inr m)) = absurd (false≢true (sym l ∙ m))

        passing : (argument : SplitArgument) (other : Cell) → argument.cell ≡ visit.cell → AsksFor p argument other
            → is_behind p visit argument ≡ true
            → is_behind p (moved_to visit position) argument ≡ false → (b : Bool)
            → is_behind_position p visit at argument ≡ b → Noted other ⊎ (other ≡ child)
        passing argument other here asking behind l true e =
            found argument other asking l (next.next argument other here asking e)
        passing argument other here asking behind l false e = inl (passed argument other here asking behind e)
