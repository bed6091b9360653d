-- Numbers outside of a window.
use Rattle.std.proofs.Common.{◌≡◌, ◌⊎◌, ℕ, zero, suc, ◌+◌, ◌<◌, ◌≤◌, max, min, ℤ, ◌<ℤ◌, ◌≤ℤ◌, Some, List, [], ◌∷◌, ◌++◌, length, slice_set, slice_get, sym, subst, ◌∙◌, inl, inr, arith}
use Rattle.score_numbers.specs.Packing.{Width}
use Rattle.score_rows.specs.Numbers.{AreDead, least}
use Rattle.std.proofs.lemmas.Bool.{cases_eq, cases_lt}
use Rattle.std.proofs.lemmas.Int.{ints}
use Rattle.score_rows.specs.Raised.{HasNumber, HasScore}
use Rattle.score_rows.proofs.Positions.{same_item, set_here, set_there}
use Rattle.score_rows.specs.Windows.{IsOutside}
use Rattle.score_rows.specs.declared.totals.Window.{Window}

-- outside of the window no number stands for a score
abbrev pub AreDeadOutside : Width → Window → List ℤ → Type 0
AreDeadOutside width window numbers = (k : ℕ) (number : ℤ) → slice_get numbers k ≡ Some number → IsOutside window k → number <ℤ least width

-- so it is of another window, outside of which the numbers are as they were
pub still_dead : (width : Width) (old new : Window) (before after : List ℤ) → AreDeadOutside width old before
    → ((k : ℕ) → IsOutside new k → IsOutside old k) → ((k : ℕ) → IsOutside new k → slice_get after k ≡ slice_get before k)
    → AreDeadOutside width new after
still_dead width old new before after dead within same k number there outside =
    dead k number (sym (same k outside) ∙ there) (within k outside)

-- one number more at the end
pub dead_more : (width : Width) (numbers : List ℤ) (last : ℤ) → AreDead width numbers → last <ℤ least width → AreDead width (numbers ++ last ∷ [])
dead_more width [] last dead less zero number there = let same : last ≡ number = cc in subst (λ n. n <ℤ least width) same less
dead_more width [] last dead less (suc k) number there = absurd cc
dead_more width (first ∷ numbers) last dead less zero number there = dead zero number there
dead_more width (first ∷ numbers) last dead less (suc k) number there =
    dead_more width numbers last (λ j other there'. dead (suc j) other there') less k number there

-- the number at the first position of the window is not one of a score any more
pub dead_from : (width : Width) (numbers : List ℤ) (first past : ℕ) (last : ℤ) → last <ℤ least width → first < length numbers
    → ((k : ℕ) (number : ℤ) → slice_get numbers k ≡ Some number → ((k < first) ⊎ (past ≤ k)) → number <ℤ least width)
    → (k : ℕ) (number : ℤ) → slice_get (slice_set numbers first last) k ≡ Some number → ((k < first + 1) ⊎ (past ≤ k)) → number <ℤ least width
dead_from width numbers first past last less l dead k number there outside = elim (cases_eq k first) [
  | inl here ↦
      let now : slice_get (slice_set numbers first last) first ≡ Some last = set_here numbers first last l in
      let same : last ≡ number = same_item (slice_set numbers first last) first last number now (subst (λ j. slice_get (slice_set numbers first last) j ≡ Some number) here there) in
      subst (λ n. n <ℤ least width) same less
  | inr apart ↦ dead k number (sym (set_there numbers first k last apart) ∙ there) (elim outside [ inl before ↦ inl (omega (arith, before, apart)) | inr behind ↦ inr behind ])
]

-- a position of one window, of which another one has none
pub in_window : (first past : ℕ) (window : Window) (k : ℕ) → first ≤ k → k < past → min past window.past ≤ max first window.first → IsOutside window k
in_window first past window k after before none = elim (cases_lt k window.first) [
  | inl l ↦ inl l
  | inr m ↦ elim (cases_lt k window.past) [
    | inl l' ↦ absurd (omega arith)
    | inr m' ↦ inr m'
  ]
]

-- the numbers between two positions that stand for scores lie in the window too
module _ (width : Width) (first past high low : ℕ) (window : Window) (others : List ℤ) (dead : AreDeadOutside width window others)
    (high_is : high ≡ max first window.first) (low_is : low ≡ min past window.past) where
  pub score_between : (k : ℕ) (number : ℤ) → HasScore width first past others k number → HasNumber high low others k number
  score_between k number ((after, before, there), live) = elim (cases_lt k window.first) [
    | inl l ↦ absurd (let less = dead k number there (inl l) in omega (arith, ints, less, live))
    | inr m ↦ elim (cases_lt k window.past) [
      | inl l' ↦ (omega (arith, high_is, after, m), omega (arith, low_is, before, l'), there)
      | inr m' ↦ absurd (let less = dead k number there (inr m') in omega (arith, ints, less, live))
    ]
  ]

  pub between_score : (k : ℕ) (number : ℤ) → HasNumber high low others k number → HasScore width first past others k number ⊎ (number <ℤ least width)
  between_score k number (after, before, there) = elim (order number (least width)) [
    | inl less ↦ inr less
    | inr live ↦ inl ((omega (arith, high_is, after), omega (arith, low_is, before), there), live)
  ]
    where
      order : (x y : ℤ) → (x <ℤ y) ⊎ (y ≤ℤ x)
      order x y = grind (arith, ints)
