-- Steps from one position after another.
use Rattle.std.proofs.Common.{◌≡◌, ◌⊎◌, ℕ, ◌+◌, ◌<◌, ◌≤◌, ℤ, ◌<ℤ◌, ◌≤ℤ◌, Some, List, slice_get, subst, inl, inr, arith}
use Rattle.std.proofs.lemmas.Bool.{cases_lt}
use Rattle.std.proofs.lemmas.Int.{ints}
use Rattle.adp_model.specs.declared.grammar.Arg.{Arg}
use Rattle.adp_model.specs.PosedProblem.{PosedProblem}
use Rattle.score_numbers.specs.Packing.{Width}
use Rattle.score_rows.specs.Numbers.{least}
use Rattle.score_rows.specs.Raised.{AreHighest}
use Rattle.score_rows.specs.Windows.{IsOutside}
use Rattle.score_rows.specs.declared.totals.Window.{Window}
use Rattle.score_rows.proofs.Highest.{rows_both, rows_same, rows_still}
use Rattle.score_rows.proofs.Positions.{same_item}
use Rattle.row_scores.specs.Steps.{AreLowSteps, AreLowStepsFrom, HasStep, HasStepFrom, Rows}

module _ (p : PosedProblem) (width : Width) (InRow : Rows) (argument : Arg) (factor : ℤ) (numbers : List ℤ) where
  -- steps from the positions before this one
  abbrev pub HasStepBefore : ℕ → ℕ → ℤ → Type 0
  HasStepBefore bound end sum = (it : HasStepFrom p width InRow argument factor numbers end sum) × (it.position < bound)

  abbrev pub IsStepped : List ℤ → List ℤ → ℕ → Type 0
  IsStepped old new bound = AreHighest width (HasStepBefore bound) (AreLowStepsFrom p width InRow argument factor numbers) old new

  -- outside of a window no number stands for a score
  abbrev pub AreDeadOutside : Window → Type 0
  AreDeadOutside window = (k : ℕ) (number : ℤ) → slice_get numbers k ≡ Some number → IsOutside window k → number <ℤ least width

  pub none_stepped : (window : Window) → AreDeadOutside window → (old : List ℤ) → IsStepped old old window.first
  none_stepped window dead old = rows_still width (HasStepBefore window.first) (AreLowStepsFrom p width InRow argument factor numbers) old
      (λ end sum (it, before). let less = dead it.position it.before it.there (inl before) in let live = it.live in omega (arith, ints, less, live))

  pub stepped_more : (old row new : List ℤ) (bound : ℕ) (number : ℤ) → slice_get numbers bound ≡ Some number → least width ≤ℤ number
      → IsStepped old row bound
      → AreHighest width (HasStep p width InRow argument factor bound number) (AreLowSteps p width InRow argument factor bound number) row new
      → IsStepped old new (bound + 1)
  stepped_more old row new bound number there live so_far more =
      rows_same width (λ end sum. HasStepBefore bound end sum ⊎ HasStep p width InRow argument factor bound number end sum) (HasStepBefore (bound + 1))
      (λ end. AreLowStepsFrom p width InRow argument factor numbers end × AreLowSteps p width InRow argument factor bound number end)
      (AreLowStepsFrom p width InRow argument factor numbers) old new
      (λ end sum low has. elim has [
        | inl (it, before) ↦ (it, omega (arith, before))
        | inr step ↦ (record { position = bound; before = number; there = there; live = live; step = step }, omega arith)
      ])
      (λ end sum low (it, before). elim (cases_lt it.position bound) [
        | inl l ↦ inl (it, l)
        | inr m ↦
            let here : it.position ≡ bound = omega (arith, before, m) in
            let same : it.before ≡ number = same_item numbers bound it.before number (subst (λ k. slice_get numbers k ≡ Some it.before) here it.there) there in
            inr (subst (λ n. HasStep p width InRow argument factor bound n end sum) same
            (subst (λ k. HasStep p width InRow argument factor k it.before end sum) here it.step))
      ])
      (λ end low. (low, low bound number there live))
      (rows_both width (HasStepBefore bound) (HasStep p width InRow argument factor bound number) (AreLowStepsFrom p width InRow argument factor numbers)
      (AreLowSteps p width InRow argument factor bound number) old row new so_far more)

  pub stepped_past : (old row : List ℤ) (bound : ℕ) (number : ℤ) → slice_get numbers bound ≡ Some number → (least width ≤ℤ number → ⊥)
      → IsStepped old row bound → IsStepped old row (bound + 1)
  stepped_past old row bound number there dead so_far =
      rows_same width (HasStepBefore bound) (HasStepBefore (bound + 1)) (AreLowStepsFrom p width InRow argument factor numbers)
      (AreLowStepsFrom p width InRow argument factor numbers) old row
      (λ end sum low (it, before). (it, omega (arith, before)))
      (λ end sum low (it, before). elim (cases_lt it.position bound) [
        | inl l ↦ (it, l)
        | inr m ↦
            let here : it.position ≡ bound = omega (arith, before, m) in
            let same : it.before ≡ number = same_item numbers bound it.before number (subst (λ k. slice_get numbers k ≡ Some it.before) here it.there) there in
            absurd (dead (subst (λ n. least width ≤ℤ n) same it.live))
      ])
      (λ end low. low) so_far

  pub all_stepped : (window : Window) → AreDeadOutside window → (old new : List ℤ) (bound : ℕ) → window.past ≤ bound → IsStepped old new bound
      → AreHighest width (HasStepFrom p width InRow argument factor numbers) (AreLowStepsFrom p width InRow argument factor numbers) old new
  all_stepped window dead old new bound whole it =
      rows_same width (HasStepBefore bound) (HasStepFrom p width InRow argument factor numbers) (AreLowStepsFrom p width InRow argument factor numbers)
      (AreLowStepsFrom p width InRow argument factor numbers) old new
      (λ end sum low has. has.0)
      (λ end sum low has. elim (cases_lt has.position bound) [
        | inl l ↦ (has, l)
        | inr m ↦
            let less = dead has.position has.before has.there (inr (omega (arith, whole, m))) in
            let live = has.live in
            absurd (omega (arith, ints, less, live))
      ])
      (λ end low. low) it
