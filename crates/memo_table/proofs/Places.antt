-- Positions, codes, and which words are record words.
use Rattle.std.proofs.Common.{◌≡◌, ℕ, List, [], ◌∷◌, ◌++◌, refl, ◌+◌, ◌-◌, ◌*◌, ◌/◌, ◌%◌, ◌<◌, ◌≤◌, ◌⊎◌, inl, inr, Option, Some, None, sym, ap, ◌∙◌, arith}
use Rattle.std.proofs.Math.Nat.{mod-lt}
use Rattle.std.proofs.lemmas.Nat.{pow_pos}
use Rattle.adp_model.specs.declared.cell.Cell.{Cell}
use Rattle.history_table.specs.declared.history.Deed.{Deed}
use Rattle.history_table.specs.declared.history.Event.{Event}
use Rattle.history_table.specs.declared.history.Mark.{Mark}
use Rattle.history_table.specs.History.{event, mark}
use Rattle.memo_model.specs.Memos.{IsOnRecordWord}
use Rattle.memo_words.specs.Codes.{HasCellCode, cell_code}
use Rattle.memo_words.specs.CodedCells.{cell_of}
use Rattle.memo_words.specs.Probes as probes
use Rattle.memo_words.specs.Layout.{Plan, IsPlanned, slots_of, probed, record_place}
use Rattle.memo_words.specs.Views.{seen_at}
use Rattle.memo_words.specs.Passes.{view_of, marks_of, HasStepped}
use Rattle.memo_words.specs.declared.pass.Pass.{Pass}
use Rattle.memo_table.specs.Meanings.{event_behind, last_event, table_meaning}

pub position_below : (plan : Plan) (code turn : ℕ) → probed plan code turn < slots_of plan
position_below plan code turn = mod-lt (probes.home code plan.bits + turn) (pow_pos plan.bits)

pub cell_of_code : (cell : Cell) → HasCellCode cell → cell_of (cell_code cell) ≡ cell
unfolding cell_of
cell_of_code cell fits =
    let f : cell.from < 4096 = let h = fits.from in omega arith in
    let t : cell.to < 4096 = let h = fits.to in omega arith in
    let rule : (cell_code cell - 1) / 16777216 ≡ cell.rule = omega arith in
    let from : (cell_code cell - 1) / 4096 % 4096 ≡ cell.from = omega arith in
    let to : (cell_code cell - 1) % 4096 ≡ cell.to = omega arith in
    λ i. record { rule = rule i; from = from i; to = to i }

-- ---- the last step

word_at : Option Event → ℕ
word_at None = 0
word_at (Some step) = step.word

found_at : Option Event → ℕ
found_at None = 0
found_at (Some step) = step.found

last_pushed : (before : Option Event) (marks : List Mark) (m : Mark) → event_behind before (marks ++ m ∷ []) ≡ Some m.event
last_pushed before [] m = refl
last_pushed before (x ∷ marks) m = last_pushed (Some x.event) marks m

-- the step that was made is the last one
pub last_is : (before after : Pass) (word : ℕ) (deed : Deed) (found : ℕ) → HasStepped word deed found before after
    → last_event after ≡ Some (event word deed found)
last_is before after word deed found stepped =
    ap (event_behind None) stepped.1 ∙ last_pushed None (marks_of before) (mark stepped.0 word deed found)

same_plan : (a b : Plan) → Some a ≡ Some b → a ≡ b
same_plan a b e = cc

module _ (pass : Pass) (plan : Plan) (cell : Cell) (word : ℕ) (deed : Deed) (found : ℕ)
    (plan_is : (view_of pass).plan ≡ Some plan) (last : last_event pass ≡ Some (event word deed found)) where
  one_step : (step : Event) → last_event pass ≡ Some step → Some (event word deed found) ≡ Some step
  one_step step e = sym last ∙ e

  -- a step on a word that lies before or behind the record words
  pub off_record : (word < 1 + slots_of plan) ⊎ (1 + 2 * slots_of plan ≤ word)
      → (d : Deed) (f : ℕ) → IsOnRecordWord table_meaning pass cell d f → ⊥
  unfolding word_at
  off_record outside d f (w, is_record, on) =
      let here : word ≡ w = ap word_at (one_step (event w d f) on) in
      let plans : plan ≡ is_record.plan = same_plan plan is_record.plan (sym plan_is ∙ is_record.plan_is) in
      let slots : slots_of plan ≡ slots_of is_record.plan = ap slots_of plans in
      let inside = is_record.inside in
      let place : w ≡ 1 + slots_of is_record.plan + is_record.position = is_record.word_is in
      go here slots inside place outside
    where
      go : word ≡ w → slots_of plan ≡ slots_of is_record.plan → is_record.position < slots_of is_record.plan
          → w ≡ 1 + slots_of is_record.plan + is_record.position
          → (word < 1 + slots_of plan) ⊎ (1 + 2 * slots_of plan ≤ word) → ⊥
      go here slots inside place (inl before) = omega arith
      go here slots inside place (inr behind) = omega arith

  -- a step on the cell's record word
  pub on_record : (position : ℕ) → word ≡ record_place (slots_of plan) position → position < slots_of plan
      → seen_at (view_of pass).keys position ≡ cell_code cell → IsOnRecordWord table_meaning pass cell deed found
  on_record position at inside seen = (
    word,
    record {
      plan = plan;
      plan_is = plan_is;
      position = position;
      inside = inside;
      seen = seen;
      word_is = at;
    },
    last,
  )

  -- and the value that it found
  pub found_there : (d : Deed) (f : ℕ) → IsOnRecordWord table_meaning pass cell d f → found ≡ f
  unfolding found_at
  found_there d f (w, is_record, on) = ap found_at (one_step (event w d f) on)

pub bits_fit : (plan : Plan) → IsPlanned plan → (1 ≤ plan.bits) × (plan.bits ≤ 22)
bits_fit plan planned =
    let few : plan.cells ≤ 2097152 = planned.few_cells in
    (planned.bits.some, planned.bits.least 22 (omega arith) (omega arith))
