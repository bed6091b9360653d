-- Cuts that divide, one boundary at a time.
use Rattle.std.proofs.Common.{◌≡◌, ℕ, suc, ◌+◌, ◌-◌, ◌<◌, ◌≤◌, List, [], ◌∷◌, ◌++◌, length, take, drop, get_or, set, refl, sym, ap, ◌∙◌, arith, length-take}
use Rattle.std.proofs.lemmas.List.{take_more_set, take-take, take-append-drop, drop_at, take_at, take_all, take_rest, drop-drop}
use Rattle.adp_model.specs.declared.grammar.Arg.{Arg}
use Rattle.adp_model.specs.declared.cell.Cell.{Cell}
use Rattle.adp_model.specs.Parts.{arguments_of}
use Rattle.adp_model.specs.PosedProblem.{PosedProblem}
use Rattle.adp_model.specs.Splits.{FitsSpan}
use Rattle.viable_splits.specs.Placing.{on_span, AreRest, Cover, Divide}

-- the first argument's span, where others follow
pub divide_first : (p : PosedProblem) (argument : Arg) (later : List Arg) (from to cut : ℕ) (cuts : List ℕ) → 0 < length later → Divide p (argument ∷ later) from to (cut ∷ cuts) → FitsSpan p (on_span argument from cut)
divide_first p argument [] from to cut cuts l h = absurd (omega arith)
divide_first p argument (next ∷ later) from to cut cuts l h = h.0

-- and the others
pub divide_later : (p : PosedProblem) (argument : Arg) (later : List Arg) (from to cut : ℕ) (cuts : List ℕ) → 0 < length later → Divide p (argument ∷ later) from to (cut ∷ cuts) → Divide p later cut to cuts
divide_later p argument [] from to cut cuts l h = absurd (omega arith)
divide_later p argument (next ∷ later) from to cut cuts l h = h.1

pub divide_both : (p : PosedProblem) (argument : Arg) (later : List Arg) (from to cut : ℕ) (cuts : List ℕ) → 0 < length later → FitsSpan p (on_span argument from cut) → Divide p later cut to cuts → Divide p (argument ∷ later) from to (cut ∷ cuts)
divide_both p argument [] from to cut cuts l first others = absurd (omega arith)
divide_both p argument (next ∷ later) from to cut cuts l first others = (first, others)

-- a list that has an item is that item and the rest, as a slice is taken
pub split_first : {X : Type 0} (all : List X) → 0 < length all → (first : X) × (all ≡ first ∷ take (length all - 1) (drop 1 all))
split_first [] l = absurd (omega arith)
split_first (first ∷ rest) l =
    let fewer : suc (length rest) - 1 ≡ length rest = omega arith in
    (first, ap (λ xs. first ∷ xs) (sym (take_all (suc (length rest) - 1) rest (omega arith))))

pub split_at_first : {X : Type 0} (all : List X) (first : X) → 0 < length all → first ≡ get_or all 0 first → all ≡ first ∷ take (length all - 1) (drop 1 all)
split_at_first [] first l is = absurd (omega arith)
split_at_first (one ∷ rest) first l is =
    let fewer : suc (length rest) - 1 ≡ length rest = omega arith in
    ap (λ x. x ∷ rest) (sym is) ∙ ap (λ xs. first ∷ xs) (sym (take_all (suc (length rest) - 1) rest (omega arith)))

pub rest_of : {X : Type 0} (all : List X) (first : X) (later : List X) → all ≡ first ∷ later → take (length all - 1) (drop 1 all) ≡ later
rest_of all first later e =
    let fewer : suc (length later) - 1 ≡ length later = omega arith in
    ap (λ xs. take (length xs - 1) (drop 1 xs)) e ∙ take_all (suc (length later) - 1) later (omega arith)

-- behind the first of an alternative's arguments from a number on are those from the next number on
pub rest_later : (p : PosedProblem) (cell : Cell) (alternative number : ℕ) (arguments : List Arg) → AreRest p cell alternative number arguments → AreRest p cell alternative (number + 1) (take (length arguments - 1) (drop 1 arguments))
rest_later p cell alternative number arguments rest =
    record {
      in_range = rest.in_range;
      are = take_rest arguments 1 ∙ ap (drop 1) rest.are ∙ drop-drop 1 number (arguments_of p.grammar cell.rule alternative);
    }

-- what arguments divide goes forward
pub divide_forward : (p : PosedProblem) (arguments : List Arg) (from to : ℕ) (cuts : List ℕ) → 0 < length arguments → Divide p arguments from to cuts → from ≤ to
divide_forward p [] from to cuts l h = absurd (omega arith)
divide_forward p (argument ∷ []) from to cuts l h = h.0.0.in_order
divide_forward p (argument ∷ next ∷ arguments) from to [] l h = h.0.in_order
divide_forward p (argument ∷ next ∷ arguments) from to (cut ∷ cuts) l h =
    let first = h.0.0.in_order in
    let others = divide_forward p (next ∷ arguments) cut to cuts (omega arith) h.1 in
    omega arith

-- and covers the letters
pub divide_cover : (p : PosedProblem) (arguments : List Arg) (from to : ℕ) (cuts : List ℕ) → 0 < length arguments → length arguments ≤ length cuts + 1 → Divide p arguments from to cuts → Cover p arguments from to
divide_cover p [] from to cuts l few h = absurd (omega arith)
divide_cover p (argument ∷ []) from to cuts l few h = (to, h.0, refl)
divide_cover p (argument ∷ next ∷ arguments) from to [] l few h = absurd (omega arith)
divide_cover p (argument ∷ next ∷ arguments) from to (cut ∷ cuts) l few h =
    (cut, h.0, divide_cover p (next ∷ arguments) cut to cuts (omega arith) (omega arith) h.1)

-- what arguments cover goes forward
pub cover_forward : (p : PosedProblem) (arguments : List Arg) (from to : ℕ) → Cover p arguments from to → from ≤ to
cover_forward p [] from to h = omega arith
cover_forward p (argument ∷ arguments) from to h =
    let first = h.1.0.in_order in
    let others = cover_forward p arguments h.0 to h.2 in
    omega arith

-- a boundary that stays as it was moved, and those behind it
pub moved_boundary : (found at : List ℕ) (number position : ℕ) → number < length at → length found ≡ length at → take (number + 1) found ≡ take (number + 1) (set at number position) → drop number found ≡ position ∷ drop (number + 1) found
moved_boundary found at number position l same kept =
    let front : take (number + 1) found ≡ take number at ++ position ∷ [] = kept ∙ take_more_set at number position l in
    let whole : found ≡ take number at ++ (position ∷ drop (number + 1) found) =
    sym (take-append-drop (number + 1) found) ∙ ap (λ xs. xs ++ drop (number + 1) found) front ∙ regroup (take number at) (drop (number + 1) found) in
    let long : length (take number at) ≡ number = simp length-take (omega arith) in
    ap (drop number) whole ∙ drop_at (take number at) (position ∷ drop (number + 1) found) number long
  where
    regroup : (xs ys : List ℕ) → (xs ++ position ∷ []) ++ ys ≡ xs ++ (position ∷ ys)
    regroup [] ys = refl
    regroup (x ∷ xs) ys = ap (λ zs. x ∷ zs) (regroup xs ys)

-- and those before it
pub kept_before : (found at : List ℕ) (number position : ℕ) → number < length at → take (number + 1) found ≡ take (number + 1) (set at number position) → take number found ≡ take number at
kept_before found at number position l kept =
    let shorter : take number (take (number + 1) found) ≡ take number found = take-take number (number + 1) found (omega arith) in
    let front : take (number + 1) found ≡ take number at ++ position ∷ [] = kept ∙ take_more_set at number position l in
    let long : length (take number at) ≡ number = simp length-take (omega arith) in
    sym shorter ∙ ap (take number) front ∙ take_at (take number at) (position ∷ []) number long
