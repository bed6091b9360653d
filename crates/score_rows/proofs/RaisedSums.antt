-- The sums to which the numbers of a row are raised, place by place.
use Rattle.std.proofs.Common.{◌≡◌, ◌⊎◌, ℕ, ◌+◌, ◌-◌, ◌<◌, ◌≤◌, ℤ, ◌<ℤ◌, nat_abs, Some, List, length, slice_get, slice_set, sym, ap, subst, ◌∙◌, inl, inr, arith}
use Rattle.std.specs.Int.{int_max}
use Rattle.std.specs.Ordering.{int_eq}
use Rattle.std.proofs.lemmas.Bool.{cases_Bool}
use Rattle.std.proofs.lemmas.Bool.Decides.{Decides-int_eq}
use Rattle.std.proofs.lemmas.Int.{ints}
use Rattle.score_numbers.specs.Packing.{Width}
use Rattle.score_rows.specs.Numbers.{least}
use Rattle.score_rows.specs.Raised.{AreHighest, HasNumber, IsAnywhere, IsBeside, IsHighest}
use Rattle.score_rows.proofs.Highest.{highest_max, rows_same}
use Rattle.score_rows.proofs.Positions.{same_item, some_position}
use Rattle.score_rows.proofs.RaisedRows.{AreRaisedBefore, none_raised, raised_more}

pub is_or_not : (a b : ℤ) → (a ≡ b) ⊎ (a ≡ b → ⊥)
is_or_not a b = elim (cases_Bool (int_eq a b)) [
  | inl there ↦ inl ((Decides-int_eq a b).0 there)
  | inr missing ↦ inr (λ e. let there = (Decides-int_eq a b).1 e in absurd cc)
]

-- the positions of others that stand side by side from `at` on
abbrev pub from_at : ℕ → ℕ → ℕ
from_at at place = at + place

pub from_at_apart : (at a b : ℕ) → from_at at a ≡ from_at at b → a ≡ b
from_at_apart at a b e = omega (arith, e)

module _ (width : Width) (Sum : ℤ → ℤ) (others : List ℤ) where
  -- what the other one at a place comes to, where it is not the mark
  abbrev pub ComesTo : ℕ → ℤ → Type 0
  ComesTo place sum = (other : ℤ) × (slice_get others place ≡ Some other) × (other ≡ width.mark → ⊥) × (sum ≡ Sum other)

  abbrev pub IsLowAt : ℤ → ℕ → Type 0
  IsLowAt add place =
      (other : ℤ) → slice_get others place ≡ Some other
      → (nat_abs add ≤ width.limit) × ((other ≡ width.mark → ⊥) → nat_abs (Sum other) ≤ width.limit)

  -- raised by a number that is the sum where that is low, and less than all scores for the mark
  pub highest_sum : (add : ℤ) (place : ℕ) (before other raised : ℤ) → slice_get others place ≡ Some other
      → (nat_abs add ≤ width.limit → nat_abs (Sum other) ≤ width.limit → raised ≡ Sum other)
      → (other ≡ width.mark → nat_abs add ≤ width.limit → raised <ℤ least width)
      → IsLowAt add place → IsHighest width (ComesTo place) before (int_max before raised)
  highest_sum add place before other raised there scored marked low =
      highest_max width (ComesTo place) before raised
      (λ sum (other', there', scores, is).
      let same : other' ≡ other = same_item others place other' other there' there in
      let scores' : other ≡ width.mark → ⊥ = λ e. scores (same ∙ e) in
      let raised_is = scored (low other there).0 ((low other there).1 scores') in
      let sum_is : sum ≡ raised = is ∙ ap Sum same ∙ sym raised_is in
      omega (arith, ints, sum_is))
      (elim (is_or_not other width.mark) [
        | inl mark ↦ inr (marked mark (low other there).0)
        | inr scores ↦ inl (other, there, scores, scored (low other there).0 ((low other there).1 scores))
      ])

  -- behind the last place all are raised
  pub all_raised : (add : ℤ) (at bound : ℕ) (old new : List ℤ) → length others ≤ bound
      → AreRaisedBefore width (from_at at) ComesTo (IsLowAt add) old new bound
      → AreHighest width (λ k sum. (other : ℤ) × IsBeside at others k other × (other ≡ width.mark → ⊥) × (sum ≡ Sum other))
      (λ k. (other : ℤ) → IsBeside at others k other → (nat_abs add ≤ width.limit) × ((other ≡ width.mark → ⊥) → nat_abs (Sum other) ≤ width.limit))
      old new
  all_raised add at bound old new whole it =
      rows_same width (λ k number. (place : ℕ) × (place < bound) × (k ≡ from_at at place) × ComesTo place number)
      (λ k sum. (other : ℤ) × IsBeside at others k other × (other ≡ width.mark → ⊥) × (sum ≡ Sum other))
      (λ k. (place : ℕ) → k ≡ from_at at place → IsLowAt add place)
      (λ k. (other : ℤ) → IsBeside at others k other → (nat_abs add ≤ width.limit) × ((other ≡ width.mark → ⊥) → nat_abs (Sum other) ≤ width.limit))
      old new
      (λ k sum low (place, l, here, (other, there, scores, is)). (other, (place, here, there), scores, is))
      (λ k sum low (other, (place, here, there), scores, is). (place, omega (arith, whole, some_position others place other there), here, (other, there, scores, is)))
      (λ k low place here other there. low other (place, here, there))
      it.raised

  pub others_raised : (add : ℤ) (at bound : ℕ) (old new : List ℤ) → bound ≤ length others
      → AreRaisedBefore width (from_at at) ComesTo (IsLowAt add) old new bound
      → (k : ℕ) → ((k < at) ⊎ (at + length others ≤ k)) → slice_get new k ≡ slice_get old k
  others_raised add at bound old new within it k outside =
      it.others k (λ place l e. elim outside [ inl before ↦ omega (arith, before, e) | inr behind ↦ omega (arith, behind, e, l, within) ])

-- the number in its own place
pub highest_number : (width : Width) (others : List ℤ) (k : ℕ) (before number : ℤ) → slice_get others k ≡ Some number
    → IsHighest width (λ other. slice_get others k ≡ Some other) before (int_max before number)
highest_number width others k before number there =
    highest_max width (λ other. slice_get others k ≡ Some other) before number
    (λ other there'. let same : other ≡ number = same_item others k other number there' there in omega (arith, ints, same))
    (inl there)

-- the number in a place from a position on
abbrev pub StandsAt : ℕ → List ℤ → ℕ → ℤ → Type 0
StandsAt first others place number = slice_get others (first + place) ≡ Some number

module _ (width : Width) (first : ℕ) (others old : List ℤ) where
  pub between_init : AreRaisedBefore width (from_at first) (StandsAt first others) IsAnywhere old old (first - first)
  between_init = subst (AreRaisedBefore width (from_at first) (StandsAt first others) IsAnywhere old old) (omega arith)
      (none_raised width (from_at first) (StandsAt first others) IsAnywhere old)

  pub between_more : (row : List ℤ) (k : ℕ) (before number : ℤ) → first ≤ k → slice_get row k ≡ Some before → slice_get others k ≡ Some number
      → AreRaisedBefore width (from_at first) (StandsAt first others) IsAnywhere old row (k - first)
      → AreRaisedBefore width (from_at first) (StandsAt first others) IsAnywhere old (slice_set row k (int_max before number)) ((k + 1) - first)
  between_more row k before number l was there so_far =
      let here : from_at first (k - first) ≡ k = omega (arith, l) in
      let R : List ℤ → ℕ → Type 0 = AreRaisedBefore width (from_at first) (StandsAt first others) IsAnywhere old in
      let beside : StandsAt first others (k - first) number = subst (λ j. slice_get others j ≡ Some number) (sym here) there in
      subst (R (slice_set row k (int_max before number))) (omega (arith, l))
      (subst (λ j. R (slice_set row j (int_max before number)) ((k - first) + 1)) here
      (raised_more width (from_at first) (StandsAt first others) IsAnywhere old (from_at_apart first) row (k - first) before (int_max before number)
      (subst (λ j. slice_get row j ≡ Some before) (sym here) was)
      (λ low. highest_number width others (first + (k - first)) before number beside) so_far))

  pub between_all : (past : ℕ) (new : List ℤ) (k : ℕ) → past ≤ k → AreRaisedBefore width (from_at first) (StandsAt first others) IsAnywhere old new (k - first)
      → k ≤ past → AreHighest width (HasNumber first past others) IsAnywhere old new
  between_all past new k l it m =
      rows_same width (λ j number. (place : ℕ) × (place < k - first) × (j ≡ from_at first place) × StandsAt first others place number)
      (HasNumber first past others) (λ j. (place : ℕ) → j ≡ from_at first place → IsAnywhere place) IsAnywhere old new
      (λ j number low (place, in_it, here, there). (omega (arith, here), omega (arith, here, in_it, l, m), ap (slice_get others) here ∙ there))
      (λ j number low (after, before, there).
      (j - first, omega (arith, after, before, l), omega (arith, after), subst (λ q. slice_get others q ≡ Some number) (omega (arith, after)) there))
      (λ j low place here. tt) it.raised

  pub between_others : (past : ℕ) (new : List ℤ) (k : ℕ) → k ≤ past → AreRaisedBefore width (from_at first) (StandsAt first others) IsAnywhere old new (k - first)
      → (j : ℕ) → ((j < first) ⊎ (past ≤ j)) → slice_get new j ≡ slice_get old j
  between_others past new k m it j outside =
      it.others j (λ place l e. elim outside [ inl before ↦ omega (arith, before, e) | inr behind ↦ omega (arith, behind, e, l, m) ])
