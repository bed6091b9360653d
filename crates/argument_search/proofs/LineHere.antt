-- The line of a split at hand: where it begins, and where its boundary may stand.
use Rattle.std.proofs.Common.{◌≡◌, ℕ, zero, suc, ◌+◌, ◌-◌, ◌<◌, ◌≤◌, List, [], ◌∷◌, length, slice_index, slice_index_or, drop, refl, sym, ap, subst, ◌∙◌, arith}
use Rattle.std.specs.List.{AllByRecursion, Contains}
use Rattle.adp_model.specs.declared.grammar.Arg.{Arg}
use Rattle.adp_model.specs.declared.grammar.Arg.TheVariants.{Rule}
use Rattle.adp_model.specs.declared.cell.Cell.{Cell}
use Rattle.memo_model.specs.declared.visit.Position.{Position}
use Rattle.adp_model.specs.PosedProblem.{PosedProblem}
use Rattle.adp_model.specs.Splits.{ends_by, FitsSpan, Placed}
use Rattle.viable_splits.specs.Placing.{on_span, Cover}
use Rattle.split_lines.specs.Laid.{LineParts, AreBoundaries}
use Rattle.split_lines.specs.Lines.{parts_by, HasLine}
use Rattle.argument_search.proofs.LineOrder.{AreWithin, front_at}

each : (P : ℕ → Type 0) (xs : List ℕ) → AllByRecursion P xs → (k : ℕ) → k < length xs → P (slice_index xs k)
each P [] all k l = absurd (omega arith)
each P (x ∷ xs) all zero l = all.0
each P (x ∷ xs) all (suc k) l = each P xs all.1 k (omega arith)

pub length_drop : {X : Type 0} (n : ℕ) (xs : List X) → length (drop n xs) ≡ length xs - n
length_drop zero xs = omega arith
length_drop (suc n) [] = omega arith
length_drop (suc n) (x ∷ xs) = length_drop n xs ∙ omega arith

-- the line's arguments are among the four
pub few_before : (arguments : List Arg) (n between : ℕ) → HasLine (drop n arguments) between → length arguments ≤ 4
    → (n + between < 3) × (n < length arguments)
few_before arguments n between has few =
    let l = length_drop n arguments in
    let m = has.several in
    (omega arith, omega arith)

-- the cuts lie within the cell
pub cut_within : (cell : Cell) (cuts : List ℕ) → AreWithin cell cuts → (n : ℕ) → n < length cuts
    → (cell.from ≤ slice_index cuts n) × (slice_index cuts n ≤ cell.to)
cut_within cell cuts within n l = each (λ cut. (cell.from ≤ cut) × (cut ≤ cell.to)) cuts within n l

pub start_within : (cell : Cell) (cuts : List ℕ) → AreWithin cell cuts → cell.from ≤ cell.to → (n : ℕ)
    → n ≤ length cuts → (cell.from ≤ slice_index (cell.from ∷ ends_by cell cuts) n)
    × (slice_index (cell.from ∷ ends_by cell cuts) n ≤ cell.to)
start_within cell cuts within ordered zero l = (omega arith, ordered)
start_within cell cuts within ordered (suc n) l =
    let it = cut_within cell cuts within n (omega arith) in
    let same = front_at cuts cell.to n (omega arith) in
    (omega (arith, it.0, same), omega (arith, it.1, same))

-- the arguments go forward
pub cover_forward : (p : PosedProblem) (arguments : List Arg) (from to : ℕ) → Cover p arguments from to → from ≤ to
cover_forward p [] from to cover = omega (arith, cover)
cover_forward p (argument ∷ arguments) from to (cut, fits, cover) =
    omega (arith, fits.0.in_order, cover_forward p arguments cut to cover)

-- a position lies between where the line begins and where it ends, and so do the letters behind it
pub position_within : (p : PosedProblem) (parts : LineParts) (from to letters last : ℕ) (positions : List ℕ)
    → AreBoundaries p parts from to letters last positions → (position : ℕ) → Contains positions position
    → (from ≤ position) × (position + letters ≤ to)
position_within p parts from to letters last positions boundaries position contains =
    let all = (boundaries.exact position).0 contains in
    (all.0.0.in_order, omega (arith, all.2.0.in_order, cover_forward p parts.tail last to all.3))

dropped_at : (xs : List Arg) (n k : ℕ) (d : Arg) → slice_index_or (drop n xs) k d ≡ slice_index_or xs (n + k) d
dropped_at xs zero k d = let same : 0 + k ≡ k = omega arith in ap (λ j. slice_index_or xs j d) (sym same)
dropped_at [] (suc n) k d = refl
dropped_at (x ∷ xs) (suc n) k d =
    let same : suc n + k ≡ suc (n + k) = omega arith in
    dropped_at xs n k d ∙ ap (λ j. slice_index_or (x ∷ xs) j d) (sym same)

-- the spans of a line's two arguments where its boundary stands at one of its positions
pub spans_there : (p : PosedProblem) (arguments : List Arg) (n between from to letters last : ℕ) (positions : List ℕ)
    → AreBoundaries p (parts_by (drop n arguments) between) from to letters last positions → (position : ℕ)
    → Contains positions position → (begin cut : ℕ) → from ≡ begin → cut ≡ position
    → FitsSpan p (on_span (slice_index_or arguments n (Rule 0)) begin cut)
    × FitsSpan p (on_span (slice_index_or arguments (n + between + 1) (Rule 0)) (cut + letters) last)
spans_there p arguments n between from to letters last positions boundaries position contains begin cut begins cuts =
    let all = (boundaries.exact position).0 contains in
    let first : slice_index_or (drop n arguments) 0 (Rule 0) ≡ slice_index_or arguments n (Rule 0) =
    dropped_at arguments n 0 (Rule 0)
    ∙ (let same : n + 0 ≡ n = omega arith in ap (λ j. slice_index_or arguments j (Rule 0)) same) in
    let second : slice_index_or (drop n arguments) (between + 1) (Rule 0) ≡ slice_index_or arguments (n + between + 1)
    (Rule 0) =
    dropped_at arguments n (between + 1) (Rule 0)
    ∙ (let same : n + (between + 1) ≡ n + between + 1 = omega arith in
    ap (λ j. slice_index_or arguments j (Rule 0)) same) in (
      subst (λ (x : Placed). FitsSpan p x) (λ i. on_span (first i) (begins i) (sym cuts i)) all.0,
      subst (λ (x : Placed). FitsSpan p x) (λ i. on_span (second i) (sym cuts i + letters) last) all.2,
    )

-- the argument with this number of a split that was moved
pub at_moved : (there first : Position) (alternative : ℕ) (cuts : List ℕ) (number : ℕ)
    → there ≡ record { alternative = first.alternative; cuts = first.cuts; number = number }
    → first ≡ record { alternative = alternative; cuts = cuts; number = 0 }
    → there ≡ record { alternative = alternative; cuts = cuts; number = number }
at_moved there first alternative cuts number it is =
    it ∙ ap (λ (b : Position). record { alternative = b.alternative; cuts = b.cuts; number = number }) is
