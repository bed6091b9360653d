-- A split at some ranks: what its arguments are worth there, or that no ranked split of its choice has such ranks.
use Rattle.std.proofs.Common.{◌≡◌, ℕ, ◌≤◌, ℤ, List, [], ◌∷◌, ◌++◌, length, refl, sym, ap, subst, ◌∙◌, arith}
use Rattle.adp_model.specs.declared.grammar.Arg.{Arg}
use Rattle.adp_model.specs.declared.grammar.Arg.TheVariants.{Rule}
use Rattle.adp_model.specs.declared.cell.Cell.{Cell}
use Rattle.adp_model.specs.declared.cell.Choice.{Choice}
use Rattle.adp_model.specs.PosedProblem.{PosedProblem}
use Rattle.adp_model.specs.Parts.{arguments_of}
use Rattle.adp_model.specs.Splits.{place, placed}
use Rattle.first_trees.specs.FirstTrees.{IsAt}
use Rattle.first_trees.specs.Entries.{Entry}
use Rattle.first_trees.specs.RankedSplits.{AreRankedValues, HasScoreAt, IsRankedSplit}
use Rattle.k_best.specs.Growing.{AreUnder}
use Rattle.k_best.specs.RankedRows.{BeginWith, IsBegun}
use Rattle.k_best.proofs.InOrder.{nothing_at, some_one}
use Rattle.k_best.proofs.Rows.{finds}

-- the rank in the place behind the first ones is no less
under_at : (ranks more others : List ℕ) (least rank : ℕ) → AreUnder (ranks ++ least ∷ more) others
    → IsAt others (length ranks) rank → least ≤ rank
under_at [] more [] least rank b at = absurd (nothing_at rank at)
under_at [] more (y ∷ ys) least rank b at = subst (λ n. least ≤ n) (some_one y rank at) b.0
under_at (x ∷ xs) more [] least rank b at = absurd (nothing_at rank at)
under_at (x ∷ xs) more (y ∷ ys) least rank b at = under_at xs more ys least rank b.1 at

module _ (p : PosedProblem) (k : ℕ) (cell : Cell) (choice : Choice) (ranks : List ℕ) (values : List ℤ)
    (others : List Arg) (from to : ℕ) (later : List ℕ) (rule : ℕ)
    (begun : IsBegun p k cell choice ranks values (Rule rule ∷ others) from (to ∷ later)) where
  -- a rule that has no tree at a rank or a greater one
  pub nowhere : (least : ℕ) (more : List ℕ)
      → ((rank : ℕ) (score : ℤ) → least ≤ rank → HasScoreAt p k (record { rule = rule; from = from; to = to }) rank score → ⊥)
      → (entry : Entry) → IsRankedSplit p k cell entry → entry.choice ≡ choice
      → AreUnder (ranks ++ least ∷ more) entry.ranks → ⊥
  nowhere least more none entry is same above =
      let child : Cell = record { rule = rule; from = from; to = to } in
      let laid : placed p cell entry.choice.alt entry.choice.cuts ≡ begun.first ++ record { argument = Rule rule; from = from; to = to } ∷ place others to later =
      ap (λ (c : Choice). placed p cell c.alt c.cuts) same ∙ begun.laid in
      let found =
      finds p k begun.first child (place others to later) ranks values begun.ranked entry.ranks is.values
      (subst (λ spans. AreRankedValues p k spans entry.ranks is.values) laid is.are_values) in
      none found.0 found.1 (under_at ranks more entry.ranks least found.0 above found.2) found.3

-- all arguments have their ranks and values
begin_front : (xs ys : List ℕ) → BeginWith xs (xs ++ ys)
begin_front [] ys = tt
begin_front (x ∷ xs) ys = (refl, begin_front xs ys)

none_more : {X : Type 0} (xs : List X) → xs ++ [] ≡ xs
none_more [] = refl
none_more (x ∷ xs) = ap (λ ys. x ∷ ys) (none_more xs)

module _ (p : PosedProblem) (k : ℕ) (cell : Cell) (choice : Choice) (ranks more : List ℕ) (values : List ℤ) (from : ℕ)
    (ends : List ℕ) where
  pub found_here : (arguments : List Arg) → length arguments ≡ 0 → IsBegun p k cell choice ranks values arguments from ends
      → BeginWith ranks (ranks ++ more) × AreRankedValues p k (placed p cell choice.alt choice.cuts) ranks values
      × (length values ≡ length (arguments_of p.grammar cell.rule choice.alt))
  found_here [] none begun = (
    begin_front ranks more,
    subst (λ laid. AreRankedValues p k laid ranks values) (sym (begun.laid ∙ none_more begun.first)) begun.ranked,
    (let many = begun.as_many in omega arith),
  )
  found_here (x ∷ xs) none begun = absurd (omega arith)
