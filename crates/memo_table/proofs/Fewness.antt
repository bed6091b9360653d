-- A probe that met only other cells' keys has come past fewer positions than cells are demanded.
use Rattle.std.proofs.Common.{◌≡◌, ℕ, suc, ◌+◌, ◌*◌, ◌^◌, ◌<◌, ◌≤◌, ◌⊎◌, inl, inr, List, length, slice_index_or, refl, sym, ap, subst, ◌∙◌, arith}
use mathlib.Core.Logic.{dite}
use native.Mathlib.Decide.{dec_le}
use Rattle.std.proofs.lemmas.List.{get_or_default}
use Rattle.adp_model.specs.declared.cell.Cell.{Cell}
use Rattle.adp_model.specs.Cells.{AreAll}
use Rattle.adp_model.specs.Demand.{IsDemanded}
use Rattle.memo_words.specs.declared.view.View.{View}
use Rattle.memo_words.specs.Codes.{HasCellCode, cell_code}
use Rattle.memo_words.specs.Probes as probes
use Rattle.memo_words.specs.Layout.{Plan, slots_of, probed}
use Rattle.memo_words.specs.Views.{seen_at}
use Rattle.memo_words.specs.Steps.{AreKeys}
use Rattle.memo_table.specs.Probes.{AreOthers}
use Rattle.memo_table.proofs.Counting.{different_below}

module _ (plan : Plan) (v : View) (cell : Cell) (turn : ℕ) (keys : AreKeys plan v.keys)
    (demanded : IsDemanded plan.problem cell) (coded : HasCellCode cell) (cells : List Cell)
    (all : AreAll (IsDemanded plan.problem) cells) (others : AreOthers plan v cell turn)
    (tried_once : (code bits i j : ℕ) → i < 2 ^ bits → j < 2 ^ bits → probes.probed code bits i ≡
    probes.probed code bits j → i ≡ j) where
  code_at : ℕ → ℕ
  code_at j = seen_at v.keys (probed plan (cell_code cell) j)

  -- the place, among the demanded cells, of the one whose key was seen at a turn, or of the cell itself from `past` on
  IsPlaced : ℕ → ℕ → ℕ → Type 0
  IsPlaced past j n =
      (c : Cell) × (n < length cells) × (slice_index_or cells n c ≡ c)
      × (((j < past) × (code_at j ≡ cell_code c)) ⊎ ((past ≤ j) × (c ≡ cell)))

  placed : (past : ℕ) → past ≤ turn → (j : ℕ) → (n : ℕ) × IsPlaced past j n
  unfolding IsPlaced code_at
  placed past low j =
      dite (dec_le (suc j) past)
      (λ below.
      let seen = keys.demanded (probed plan (cell_code cell) j) (others j (omega arith)).0 in
      let at = all.all seen.0 seen.2 in
      (at.0, (seen.0, at.1, at.2, inl (omega arith, seen.1.same))))
      (λ not_below.
      let at = all.all cell demanded in
      (at.0, (cell, at.1, at.2, inr ((let h : (suc j ≤ past) → ⊥ = not_below in omega arith), refl))))

  apart : (past i j n : ℕ) → past ≤ turn → past ≤ slots_of plan → i < past + 1 → j < past + 1 → IsPlaced past i n
      → IsPlaced past j n → i ≡ j
  unfolding IsPlaced code_at
  apart past i j n low fit ilt jlt (a, inside, here, how) (b, inside', here', how') =
      go how how'
    where
      same : a ≡ b
      same = sym here ∙ get_or_default cells n a b inside ∙ here'

      go : ((i < past) × (code_at i ≡ cell_code a)) ⊎ ((past ≤ i) × (a ≡ cell))
          → ((j < past) × (code_at j ≡ cell_code b)) ⊎ ((past ≤ j) × (b ≡ cell)) → i ≡ j
      go (inl (low_i, code)) (inl (low_j, code')) =
          let seen = (others i (omega arith)).0 in
          let codes : code_at i ≡ code_at j = code ∙ ap cell_code same ∙ sym code' in
          let at : probed plan (cell_code cell) i ≡ probed plan (cell_code cell) j =
          keys.apart (probed plan (cell_code cell) i) (probed plan (cell_code cell) j) seen codes in
          tried_once (cell_code cell) plan.bits i j (omega arith) (omega arith) at
      go (inl (low_i, code)) (inr (high, own)) =
          absurd ((others i (omega arith)).1 (code ∙ ap cell_code (same ∙ own)))
      go (inr (high, own)) (inl (low_j, code)) =
          absurd ((others j (omega arith)).1 (code ∙ ap cell_code (sym same ∙ own)))
      go (inr (high, own)) (inr (high', own')) = omega arith

  fewer_to : (past : ℕ) → past ≤ turn → past ≤ slots_of plan → past + 1 ≤ length cells
  unfolding IsPlaced
  fewer_to past low fit =
      different_below (λ j. (placed past low j).0) (past + 1) (length cells)
      (λ i lt. (placed past low i).1.1)
      (λ i j ilt jlt same.
      apart past i j (placed past low j).0 low fit ilt jlt
      (subst (IsPlaced past i) same (placed past low i).1) (placed past low j).1)

  pub others_are_fewer : length cells ≤ plan.cells → 2 * plan.cells ≤ 2 ^ plan.bits → turn < length cells
  others_are_fewer bounded room =
      dite (dec_le turn (slots_of plan))
      (λ fit. let f = fewer_to turn (omega arith) fit in omega arith)
      (λ over.
      let h : (turn ≤ slots_of plan) → ⊥ = over in
      let f = fewer_to (slots_of plan) (omega arith) (omega arith) in
      absurd (omega arith))
