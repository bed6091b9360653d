-- A machine keeps pace, and ends before its steps run out.
use Rattle.std.proofs.Common.{◌≡◌, ℕ, ◌+◌, ◌*◌, ◌^◌, ◌<◌, ◌≤◌, inl, inr, List, length, sym, ap, ◌∙◌, subst, arith}
use Rattle.std.proofs.lemmas.Nat.{mul-le}
use Rattle.rand_pcg.specs.Lcg.{Lcg}
use Rattle.random_orders.specs.Draws.{drawn_turns, after_draws}
use Rattle.adp_model.specs.PosedProblem.{PosedProblem}
use Rattle.memo_model.specs.Memos.{Meaning}
use Rattle.memo_model.specs.StepBound.{step_bound}
use Rattle.cell_core.specs.FrameChanges.{Standing, turn_bounds, ChangesFrames}

-- the orders are those after four draws for each opened frame
abbrev pub IsInPace : Lcg → ℕ → Lcg → Type 0
IsInPace first opened orders = orders ≡ after_draws (4 * opened) first

abbrev pub TurnsAdvance : Type 0
TurnsAdvance = (bounds : List ℕ) (generator : Lcg)
    → (drawn_turns bounds generator).1 ≡ after_draws (length bounds) generator

abbrev pub DrawsAdd : Type 0
DrawsAdd = (a b : ℕ) (generator : Lcg) → after_draws b (after_draws a generator) ≡ after_draws (a + b) generator

module _ {Pass Probe : Type 0} (memo : Meaning Pass Probe) (turns : TurnsAdvance) (sum : DrawsAdd) where
  pub pace_kept : (p : PosedProblem) (pass pass' : Pass) (before after : Standing)
      → ChangesFrames memo p pass pass' before after → (first : Lcg) → IsInPace first before.opened before.orders
      → IsInPace first after.opened after.orders
  pace_kept p pass pass' before after (inl same) first pace =
      subst (λ (it : Standing). IsInPace first it.opened it.orders) (sym same) pace
  pace_kept p pass pass' before after (inr (inl added)) first pace =
      let drawn : after.orders ≡ (drawn_turns (turn_bounds p added.opening.cell) before.orders).1 =
      ap (λ (it : List ℕ × Lcg). it.1) added.turns in
      let four : (drawn_turns (turn_bounds p added.opening.cell) before.orders).1 ≡ after_draws 4 before.orders =
      turns (turn_bounds p added.opening.cell) before.orders in
      let from : after_draws 4 before.orders ≡ after_draws 4 (after_draws (4 * before.opened) first) =
      ap (after_draws 4) pace in
      let count : 4 * before.opened + 4 ≡ 4 * after.opened = omega (arith, added.opened) in
      drawn ∙ four ∙ from ∙ sum (4 * before.opened) 4 first ∙ ap (λ n. after_draws n first) count
  pace_kept p pass pass' before after (inr (inr gone)) first pace =
      gone.orders ∙ pace ∙ ap (λ n. after_draws (4 * n) first) (sym gone.opened)

-- a machine has fewer than 2 ^ 127 steps
pub few_steps : (m arguments : ℕ) → m ≤ 2097152 → arguments ≤ 2 ^ 75 → step_bound m arguments < 2 ^ 127
few_steps m arguments few_cells few_arguments =
    let product = mul-le (arguments + 1) (2 * m + 5) (2 ^ 75 + 1) 4194309 (omega (arith, few_arguments))
    (omega (arith, few_cells)) in
    omega (arith, product, few_cells)
