-- Keys and records are at most as many as demanded cells, and seats.
use Rattle.std.proofs.Common.{◌≡◌, ℕ, ◌+◌, ◌<◌, ◌≤◌, min, List, length, get_or, sym, ap, ◌∙◌, arith}
use mathlib.Core.Logic.{dite}
use native.Mathlib.Decide.{ℕ_discrete}
use Rattle.std.proofs.lemmas.List.{get_or_default}
use Rattle.atomic_table.specs.Table.{State}
use Rattle.adp_model.specs.declared.cell.Cell.{Cell}
use Rattle.adp_model.specs.Demand.{IsDemandedCount}
use Rattle.memo_words.specs.declared.view.View.{View}
use Rattle.memo_words.specs.Codes.{cell_code}
use Rattle.memo_words.specs.CodedCells.{IsCodeOf}
use Rattle.memo_words.specs.Layout.{Plan, slots_of, counter, key, tally}
use Rattle.memo_words.specs.Kept.{Kept, name}
use Rattle.memo_words.proofs.Tallies.{tally_le}
use Rattle.memo_words.proofs.Room.{spread, few_owned}

module _ (plan : Plan) (s : State ℕ View) (r : Kept plan s) (m : ℕ) (count : IsDemandedCount plan.problem m) where
  pub few_keys : tally (λ position. min (key s.words position) 1) (slots_of plan) ≤ m
  few_keys =
      let cells : List Cell = count.0 in
      let IsPlace : ℕ → ℕ → Type 0 =
      λ code k. (cell : Cell) × IsCodeOf cell code × (k < length cells) × (get_or cells k cell ≡ cell) in
      let long = count.2 in
      spread IsPlace (key s.words) (slots_of plan) m
      (λ i lt full.
      let st = r.keys i lt full in let has = count.1.all st.cell st.demanded in let low = has.1 in
      (has.0, omega arith, (st.cell, st.code, has.1, has.2)))
      (λ a b k p q.
      let same : p.0 ≡ q.0 = sym p.3 ∙ (get_or_default cells k p.0 q.0 p.2 ∙ q.3) in
      p.1.same ∙ (ap cell_code same ∙ sym q.1.same))
      r.apart

  pub few_records : counter s.words ≤ m + plan.seats
  few_records =
      let ws = s.words in let keys = few_keys in
      let names = tally_le (λ i. min (name plan ws i) 1) (λ i. min (key ws i) 1) (slots_of plan)
      (λ i lt. dite (ℕ_discrete (name plan ws i) 0) (λ z. omega arith)
      (λ n. let k = r.keyed i lt (omega arith) in omega arith)) in
      let owned = few_owned s.views (λ j u e. (r.each j u e).few) in
      let counted = r.counted in let shares = r.shares in omega arith
