-- The cuts of viable splits lie within the cell, and their ranks tell them apart.
use Rattle.std.proofs.Common.{◌≡◌, ℕ, suc, ◌+◌, ◌-◌, ◌≤◌, List, [], ◌∷◌, ◌++◌, length, drop, refl, subst, arith}
use Rattle.std.specs.List.{AllByRecursion}
use Rattle.adp_model.specs.declared.cell.Cell.{Cell}
use Rattle.adp_model.specs.declared.grammar.Arg.{Arg}
use Rattle.adp_model.specs.PosedProblem.{PosedProblem}
use Rattle.adp_model.specs.Parts.{arguments_of}
use Rattle.adp_model.specs.Splits.{place, ends_by, FitsSpan, IsViable}
use Rattle.adp_model.specs.Walk.{rank_of, ranks_of}
use Rattle.adp_model.proofs.TurnedRanks.{rank_same}

-- the position lies between these two
abbrev pub Between : ℕ → ℕ → ℕ → Type 0
Between from to x = (from ≤ x) × (x ≤ to)

-- all of them stand here
abbrev AreAt : ℕ → List ℕ → Type 0
AreAt to ends = AllByRecursion (λ boundary. boundary ≡ to) ends

below_suc : (n : ℕ) → suc n - 1 ≡ n
below_suc n = omega arith

-- what comes to an end at `to` begins before it
end_below : (p : PosedProblem) (argument : Arg) (arguments : List Arg) (from to : ℕ) (ends : List ℕ)
    → AllByRecursion (FitsSpan p) (place (argument ∷ arguments) from ends) → AreAt to (drop (length arguments) ends)
    → length arguments + 1 ≤ length ends → from ≤ to
end_below p argument arguments from to [] fits last few = absurd (omega arith)
end_below p argument [] from to (end ∷ ends) fits last few = omega (arith, fits.0.0.in_order, last.0)
end_below p argument (next ∷ arguments) from to (end ∷ ends) fits last few =
    omega (arith, fits.0.0.in_order, end_below p next arguments end to ends fits.1 last (omega arith))

all_at : (from to : ℕ) (ends : List ℕ) → from ≤ to → AreAt to ends → AllByRecursion (Between from to) ends
all_at from to [] l all = tt
all_at from to (end ∷ ends) l all = ((omega (arith, all.0), omega (arith, all.0)), all_at from to ends l all.1)

wider : (from from' to : ℕ) (ends : List ℕ) → from ≤ from' → AllByRecursion (Between from' to) ends
    → AllByRecursion (Between from to) ends
wider from from' to [] l all = tt
wider from from' to (end ∷ ends) l all = ((omega (arith, all.0.0), all.0.1), wider from from' to ends l all.1)

-- the ends of arguments lie between where they begin and where they end
ends_between : (p : PosedProblem) (argument : Arg) (arguments : List Arg) (from to : ℕ) (ends : List ℕ)
    → AllByRecursion (FitsSpan p) (place (argument ∷ arguments) from ends) → AreAt to (drop (length arguments) ends)
    → length arguments + 1 ≤ length ends → AllByRecursion (Between from to) ends
ends_between p argument arguments from to [] fits last few = tt
ends_between p argument [] from to (end ∷ ends) fits last few =
    all_at from to (end ∷ ends) (end_below p argument [] from to (end ∷ ends) fits last few) last
ends_between p argument (next ∷ arguments) from to (end ∷ ends) fits last few =
    let l = fits.0.0.in_order in
    let m = end_below p next arguments end to ends fits.1 last (omega arith) in
    ((l, m), wider from end to ends l (ends_between p next arguments end to ends fits.1 last (omega arith)))

front : (P : ℕ → Type 0) (xs ys : List ℕ) → AllByRecursion P (xs ++ ys) → AllByRecursion P xs
front P [] ys all = tt
front P (x ∷ xs) ys all = (all.0, front P xs ys all.1)

length_ends : (cuts : List ℕ) (to : ℕ) → length (cuts ++ to ∷ []) ≡ length cuts + 1
length_ends [] to = omega arith
length_ends (cut ∷ cuts) to = omega (arith, length_ends cuts to)

ends_within_cell : (p : PosedProblem) (arguments : List Arg) (from to : ℕ) (ends : List ℕ)
    → AllByRecursion (FitsSpan p) (place arguments from ends) → AreAt to (drop (length arguments - 1) ends)
    → from ≤ to → length arguments ≤ length ends → AllByRecursion (Between from to) ends
ends_within_cell p [] from to ends fits last l few = all_at from to ends l last
ends_within_cell p (argument ∷ arguments) from to ends fits last l few =
    let L : ℕ → Type 0 = λ n. AreAt to (drop n ends) in
    ends_between p argument arguments from to ends fits (subst L (below_suc (length arguments)) last) (omega arith)

-- the cuts of a viable split lie in the cell
pub cuts_within : (p : PosedProblem) (cell : Cell) (alternative : ℕ) (cuts : List ℕ) → cell.from ≤ cell.to
    → length (arguments_of p.grammar cell.rule alternative) ≤ 4 → IsViable p cell alternative cuts
    → AllByRecursion (Between cell.from cell.to) cuts
cuts_within p cell alternative cuts l few viable =
    let arguments = arguments_of p.grammar cell.rule alternative in
    front (Between cell.from cell.to) cuts (cell.to ∷ [])
    (ends_within_cell p arguments cell.from cell.to (ends_by cell cuts) viable.fits viable.last l
    (omega (arith, length_ends cuts cell.to, viable.three)))

ranks_same : (cell : Cell) (turns cuts others : List ℕ) → length turns ≡ length cuts → length turns ≡ length others
    → AllByRecursion (λ turn. turn ≤ cell.to - cell.from) turns → AllByRecursion (Between cell.from cell.to) cuts
    → AllByRecursion (Between cell.from cell.to) others → ranks_of cell turns cuts ≡ ranks_of cell turns others
    → cuts ≡ others
ranks_same cell [] [] [] e f low within within' same = refl
ranks_same cell [] [] (other ∷ others) e f low within within' same = absurd (omega arith)
ranks_same cell [] (cut ∷ cuts) others e f low within within' same = absurd (omega arith)
ranks_same cell (turn ∷ turns) [] others e f low within within' same = absurd (omega arith)
ranks_same cell (turn ∷ turns) (cut ∷ cuts) [] e f low within within' same = absurd (omega arith)
ranks_same cell (turn ∷ turns) (cut ∷ cuts) (other ∷ others) e f low within within' same =
    let first : rank_of cell turn cut ≡ rank_of cell turn other = cc in
    let later : ranks_of cell turns cuts ≡ ranks_of cell turns others = cc in
    let here : cut ≡ other =
    rank_same cell turn cut other low.0 within.0.0 within.0.1 within'.0.0 within'.0.1 first in
    let rest : cuts ≡ others =
    ranks_same cell turns cuts others (omega arith) (omega arith) low.1 within.1 within'.1 later in
    λ i. here i ∷ rest i

-- viable cuts of one alternative with the same ranks are the same
pub ranks_apart : (p : PosedProblem) (cell : Cell) (turns : List ℕ) → cell.from ≤ cell.to → length turns ≡ 3
    → AllByRecursion (λ turn. turn ≤ cell.to - cell.from) turns → (alternative : ℕ) (cuts others : List ℕ)
    → length (arguments_of p.grammar cell.rule alternative) ≤ 4 → IsViable p cell alternative cuts
    → IsViable p cell alternative others → ranks_of cell turns cuts ≡ ranks_of cell turns others → cuts ≡ others
ranks_apart p cell turns ordered three low alternative cuts others few viable viable' same =
    ranks_same cell turns cuts others (omega (arith, viable.three)) (omega (arith, viable'.three)) low
    (cuts_within p cell alternative cuts ordered few viable)
    (cuts_within p cell alternative others ordered few viable') same
