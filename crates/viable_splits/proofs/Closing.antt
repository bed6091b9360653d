-- Where at most one argument is left, the boundaries stand at the cell's end, so there is one choice at most.
use Rattle.std.proofs.Common.{◌≡◌, ℕ, zero, suc, ◌<◌, inl, inr, Option, Some, None, MatchOption, List, [], ◌∷◌, length, take, drop, get_or, sym, ap, subst, ◌∙◌, arith}
use Rattle.std.specs.List.{AllByRecursion}
use Rattle.std.specs.Prelude.{◌≤◌, false, ◌&&◌}
use Rattle.std.specs.Ordering.{nat_cmp, is_le, is_lt}
use Rattle.std.proofs.lemmas.Bool.Decides.{nat_tests}
use Rattle.adp_model.specs.declared.grammar.Arg.{Arg}
use Rattle.adp_model.specs.declared.cell.Cell.{Cell}
use Rattle.adp_model.specs.PosedProblem.{PosedProblem}
use Rattle.adp_model.specs.Splits.{FitsSpan}
use Rattle.adp_model.specs.Walk.{rank_of, IsVisitedBefore}
use Rattle.viable_splits.specs.declared.cuts.Cuts.{Cuts}
use Rattle.viable_splits.specs.Placing.{on_span, Divide, IsFirstBehind, IsLastFrom}

-- what holds of each holds at a position
pub all_at : {X : Type 0} (P : X → Type 0) (xs : List X) (k : ℕ) (d : X) → k < length xs → AllByRecursion P xs → P (get_or xs k d)
all_at P [] k d l h = absurd (omega arith)
all_at P (x ∷ xs) zero d l h = h.0
all_at P (x ∷ xs) (suc k) d l h = all_at P xs k d (omega arith) h.1

-- what a range doesn't contain isn't in it
pub not_contained : (start position end : ℕ) → false ≡ (is_le (nat_cmp start position) && is_lt (nat_cmp position end)) → start ≤ position → position < end → ⊥
not_contained start position end outside low high = grind (arith, nat_tests)

abbrev pub AllAt : ℕ → List ℕ → Type 0
AllAt to cuts = AllByRecursion (λ cut. cut ≡ to) cuts

closed_by_divide : (p : PosedProblem) (arguments : List Arg) (from to : ℕ) (cuts : List ℕ) → length arguments < 2 → Divide p arguments from to cuts → AllAt to cuts
closed_by_divide p [] from to cuts l h = h
closed_by_divide p (argument ∷ []) from to cuts l h = h.1
closed_by_divide p (argument ∷ next ∷ arguments) from to cuts l h = absurd (omega arith)

-- boundaries that all stand at the end are in no order
closed_not_before : (cell : Cell) (turns cuts others : List ℕ) → AllAt cell.to cuts → AllAt cell.to others → IsVisitedBefore cell turns cuts others → ⊥
closed_not_before cell turns [] others c o before = before
closed_not_before cell [] (cut ∷ cuts) others c o before = before
closed_not_before cell (turn ∷ turns) (cut ∷ cuts) [] c o before = before
closed_not_before cell (turn ∷ turns) (cut ∷ cuts) (other ∷ others) c o before =
    let same : rank_of cell turn cut ≡ rank_of cell turn other = ap (rank_of cell turn) (c.0 ∙ sym o.0) in
    elim before [
      | inl less ↦ omega arith
      | inr equal ↦ closed_not_before cell turns cuts others c.1 o.1 equal.1
    ]

pub closed_first : (p : PosedProblem) (cell : Cell) (arguments : List Arg) (from number : ℕ) (cuts found : Cuts) → length arguments < 2 → found.turns ≡ cuts.turns → length found.at ≡ 3 → take number found.at ≡ take number cuts.at → AllAt cell.to (drop number found.at) → Divide p arguments from cell.to (drop number found.at) → IsFirstBehind p cell arguments from number 0 cuts found
closed_first p cell arguments from number cuts found few turns three kept closed divides =
    record {
      continues = record { turns = turns; three = three; kept = kept; divides = divides };
      behind = omega arith;
      first = λ others l h r before.
          closed_not_before cell (drop number cuts.turns) others (drop number found.at) (closed_by_divide p arguments from cell.to others few h) closed before;
    }

pub closed_last : (p : PosedProblem) (cell : Cell) (arguments : List Arg) (from number : ℕ) (cuts : Cuts) → length arguments < 2 → Divide p arguments from cell.to (drop number cuts.at) → IsLastFrom p cell arguments from number cuts
closed_last p cell arguments from number cuts few divides others l h behind =
    closed_not_before cell (drop number cuts.turns) (drop number cuts.at) others (closed_by_divide p arguments from cell.to (drop number cuts.at) few divides) (closed_by_divide p arguments from cell.to others few h) behind

-- one argument fits what is left of the cell
pub divide_one : (p : PosedProblem) (arguments : List Arg) (argument : Arg) (from to : ℕ) (cuts : List ℕ) → length arguments ≡ 1 → argument ≡ get_or arguments 0 argument → FitsSpan p (on_span argument from to) → AllAt to cuts → Divide p arguments from to cuts
divide_one p [] argument from to cuts l is fits closed = closed
divide_one p (first ∷ []) argument from to cuts l is fits closed = (subst (λ a. FitsSpan p (on_span a from to)) is fits, closed)
divide_one p (first ∷ next ∷ arguments) argument from to cuts l is fits closed = absurd (omega arith)

pub fits_one : (p : PosedProblem) (arguments : List Arg) (argument : Arg) (from to : ℕ) (cuts : List ℕ) → length arguments ≡ 1 → argument ≡ get_or arguments 0 argument → Divide p arguments from to cuts → FitsSpan p (on_span argument from to)
fits_one p [] argument from to cuts l is h = absurd (omega arith)
fits_one p (first ∷ []) argument from to cuts l is h = subst (λ a. FitsSpan p (on_span a from to)) (sym is) h.0
fits_one p (first ∷ next ∷ arguments) argument from to cuts l is h = absurd (omega arith)

pub divide_none : (p : PosedProblem) (arguments : List Arg) (from to : ℕ) (cuts : List ℕ) → length arguments ≡ 0 → AllAt to cuts → Divide p arguments from to cuts
divide_none p [] from to cuts l closed = closed
divide_none p (argument ∷ arguments) from to cuts l closed = absurd (omega arith)

-- what follows in both cases of an option
pub match_option : {X : Type 0} (found : Option X) (P Q : Type 0) (R S : X → Type 0) → (P → Q) → ((x : X) → R x → S x) → MatchOption found P R → MatchOption found Q S
match_option None P Q R S none some h = none h
match_option (Some x) P Q R S none some h = some x h
