-- What stands between two splits of a line in the order of a visit.
use Rattle.std.proofs.Common.{◌≡◌, ℕ, zero, suc, ◌-◌, ◌<◌, ◌≤◌, inl, inr, List, [], ◌∷◌, ◌++◌, length, take, slice_index, refl, ap, arith}
use Rattle.std.specs.List.{AllByRecursion}
use Rattle.std.proofs.lemmas.Bool.{cases_lt}
use Rattle.adp_model.specs.declared.cell.Cell.{Cell}
use Rattle.adp_model.specs.Preference.{LexicographicallyLess}
use Rattle.adp_model.specs.Walk.{rank_of, ranks_of}

abbrev pub at_index : List ℕ → ℕ → ℕ
at_index xs k = slice_index xs k

-- a list between two that begin alike begins so too, and then lies between them
pub squeeze : (n : ℕ) (a x b : List ℕ) → n < length a → n < length x → n < length b → take n a ≡ take n b
    → (LexicographicallyLess x a → ⊥) → (LexicographicallyLess b x → ⊥)
    → (take n x ≡ take n a) × ((at_index a n ≤ at_index x n) × (at_index x n ≤ at_index b n))
squeeze n [] x b l m k same low high = absurd (omega arith)
squeeze n (a ∷ us) [] b l m k same low high = absurd (omega arith)
squeeze n (a ∷ us) (x ∷ xs) [] l m k same low high = absurd (omega arith)
squeeze zero (a ∷ us) (x ∷ xs) (b ∷ vs) l m k same low high =
    (refl, (not_less x a (λ less. low (inl less)), not_less b x (λ less. high (inl less))))
  where
    not_less : (u v : ℕ) → (u < v → ⊥) → v ≤ u
    not_less u v none = elim (cases_lt u v) [ inl less ↦ absurd (none less) | inr not ↦ not ]
squeeze (suc n) (a ∷ us) (x ∷ xs) (b ∷ vs) l m k same low high =
    let first : a ≡ b = cc in
    let rest : take n us ≡ take n vs = cc in
    let up : a ≤ x = not_less x a (λ less. low (inl less)) in
    let down : x ≤ b = not_less b x (λ less. high (inl less)) in
    let e : x ≡ a = omega arith in
    let f : b ≡ x = omega arith in
    let found = squeeze n us xs vs (omega arith) (omega arith) (omega arith) rest (λ less. low (inr (e, less)))
    (λ less. high (inr (f, less))) in
    ((λ i. e i ∷ found.0 i), found.1)
  where
    not_less : (u v : ℕ) → (u < v → ⊥) → v ≤ u
    not_less u v none = elim (cases_lt u v) [ inl less ↦ absurd (none less) | inr not ↦ not ]

-- ---- ranks

abbrev pub AreWithin : Cell → List ℕ → Type 0
AreWithin cell cuts = AllByRecursion (λ cut. (cell.from ≤ cut) × (cut ≤ cell.to)) cuts

-- what law the ranks keep
abbrev pub RanksApart : Type 0
RanksApart = (cell : Cell) (turn x y : ℕ) → turn ≤ cell.to - cell.from → cell.from ≤ x → x ≤ cell.to → cell.from ≤ y
    → y ≤ cell.to → rank_of cell turn x ≡ rank_of cell turn y → x ≡ y

-- cuts whose first ranks are the same begin alike
pub same_front : RanksApart → (cell : Cell) (n : ℕ) (turns cuts others : List ℕ) → length turns ≡ length cuts
    → length turns ≡ length others → AllByRecursion (λ turn. turn ≤ cell.to - cell.from) turns → AreWithin cell cuts
    → AreWithin cell others → take n (ranks_of cell turns cuts) ≡ take n (ranks_of cell turns others)
    → take n cuts ≡ take n others
same_front apart cell zero turns cuts others e f low within within' same = refl
same_front apart cell (suc n) [] [] [] e f low within within' same = refl
same_front apart cell (suc n) [] [] (other ∷ others) e f low within within' same = absurd (omega arith)
same_front apart cell (suc n) [] (cut ∷ cuts) others e f low within within' same = absurd (omega arith)
same_front apart cell (suc n) (turn ∷ turns) [] others e f low within within' same = absurd (omega arith)
same_front apart cell (suc n) (turn ∷ turns) (cut ∷ cuts) [] e f low within within' same = absurd (omega arith)
same_front apart cell (suc n) (turn ∷ turns) (cut ∷ cuts) (other ∷ others) e f low within within' same =
    let first : rank_of cell turn cut ≡ rank_of cell turn other = cc in
    let later : take n (ranks_of cell turns cuts) ≡ take n (ranks_of cell turns others) = cc in
    let here : cut ≡ other = apart cell turn cut other low.0 within.0.0 within.0.1 within'.0.0 within'.0.1 first in
    let rest = same_front apart cell n turns cuts others (omega arith) (omega arith) low.1 within.1 within'.1 later in
    λ i. here i ∷ rest i

-- cuts that begin alike have ranks that do
pub front_ranks : (cell : Cell) (n : ℕ) (turns cuts others : List ℕ) → take n cuts ≡ take n others
    → length cuts ≡ length others → take n (ranks_of cell turns cuts) ≡ take n (ranks_of cell turns others)
front_ranks cell zero turns cuts others same e = refl
front_ranks cell (suc n) turns [] [] same e = refl
front_ranks cell (suc n) turns [] (other ∷ others) same e = absurd (omega arith)
front_ranks cell (suc n) turns (cut ∷ cuts) [] same e = absurd (omega arith)
front_ranks cell (suc n) [] (cut ∷ cuts) (other ∷ others) same e = refl
front_ranks cell (suc n) (turn ∷ turns) (cut ∷ cuts) (other ∷ others) same e =
    let here : cut ≡ other = cc in
    let later : take n cuts ≡ take n others = cc in
    let rest = front_ranks cell n turns cuts others later (omega arith) in
    λ i. rank_of cell turn (here i) ∷ rest i

-- the rank of a cut among the ranks
pub rank_at : (cell : Cell) (n : ℕ) (turns cuts : List ℕ) → n < length turns → n < length cuts
    → slice_index (ranks_of cell turns cuts) n ≡ rank_of cell (slice_index turns n) (slice_index cuts n)
rank_at cell n [] cuts l m = absurd (omega arith)
rank_at cell n (turn ∷ turns) [] l m = absurd (omega arith)
rank_at cell zero (turn ∷ turns) (cut ∷ cuts) l m = refl
rank_at cell (suc n) (turn ∷ turns) (cut ∷ cuts) l m = rank_at cell n turns cuts (omega arith) (omega arith)

-- what stands in front of the end
pub front_at : (xs : List ℕ) (last n : ℕ) → n < length xs → slice_index (xs ++ last ∷ []) n ≡ slice_index xs n
front_at [] last n l = absurd (omega arith)
front_at (x ∷ xs) last zero l = refl
front_at (x ∷ xs) last (suc n) l = front_at xs last n (omega arith)

pub take_front : (xs : List ℕ) (last n : ℕ) → n ≤ length xs → take n (xs ++ last ∷ []) ≡ take n xs
take_front xs last zero l = refl
take_front [] last (suc n) l = absurd (omega arith)
take_front (x ∷ xs) last (suc n) l = ap (λ ys. x ∷ ys) (take_front xs last n (omega arith))

-- of two lists that begin alike, the one that is less there is less
pub less_at : (n : ℕ) (a b : List ℕ) → n < length a → n < length b → take n a ≡ take n b → at_index a n < at_index b n
    → LexicographicallyLess a b
less_at n [] b l m same less = absurd (omega arith)
less_at n (a ∷ us) [] l m same less = absurd (omega arith)
less_at zero (a ∷ us) (b ∷ vs) l m same less = inl less
less_at (suc n) (a ∷ us) (b ∷ vs) l m same less =
    let first : a ≡ b = cc in
    let rest : take n us ≡ take n vs = cc in
    inr (first, less_at n us vs (omega arith) (omega arith) rest less)
