-- What the steps of a look on key words tell.
use Rattle.std.proofs.Common.{◌≡◌, ◌≢◌, ℕ, ◌+◌, ◌-◌, ◌*◌, ◌<◌, ◌≤◌, ◌⊎◌, inl, inr, false, if◌then◌else◌, ◌==◌, refl, sym, ap, subst, ◌∙◌, arith}
use mathlib.Core.Logic.{dite}
use native.Mathlib.Decide.{ℕ_discrete}
use Rattle.adp_model.specs.declared.cell.Cell.{Cell}
use Rattle.memo_model.specs.declared.probe.Look.TheVariants.{Going}
use Rattle.memo_model.specs.declared.probe.Stage.TheVariants as stages
use Rattle.adp_model.specs.Demand.{IsDemanded, IsDemandedCount}
use Rattle.memo_words.specs.declared.view.View.{View}
use Rattle.memo_words.specs.Codes.{HasCellCode, cell_code}
use Rattle.adp_model.specs.ProblemFields.{IsAdmissible, most_cells}
use Rattle.memo_words.specs.Layout.{Plan, IsPlanned, slots_of, probed, key_place}
use Rattle.memo_words.specs.Views.{seen_at, key_loaded, key_exchanged}
use Rattle.memo_words.specs.Steps.{AreKeys, StaySeen}
use Rattle.memo_words.specs.Passes.{view_of, plan_of, problem_of, IsPassOf}
use Rattle.memo_words.specs.declared.pass.Pass.{Pass}
use Rattle.memo_words.specs.declared.words.Words.{Words}
use Rattle.memo_table.specs.declared.probe.Next.{Next}
use Rattle.memo_table.specs.declared.probe.Next.TheVariants.{Key, Claim, RecordWord}
use Rattle.memo_table.specs.declared.probe.Probe.{Probe}
use Rattle.memo_table.specs.Probes.{stage_of, loads_record, steps_left, AreOthers, IsDue, Follows}
use Rattle.memo_table.specs.Meanings.{PassGoesOn}
use Rattle.memo_table.specs.Following.{others_on, demanded_by}
use Rattle.memo_table.specs.Stepped.{IsLooked}
use Rattle.memo_table.proofs.Places.{position_below}
use Rattle.memo_table.proofs.Seeing.{seen_here, unless_here}
use Rattle.memo_table.proofs.Quiet.{IsStepOn, IsQuiet, key_load_is_quiet, key_exchange_is_quiet, known_on, sees_key}
use Rattle.memo_table.proofs.Looks.{moved, follows_now, due_here, going}

-- a step on a key word, in which this value stands after it
pub record IsKeyStep (words : Words) (before after : Pass) (position value : ℕ) : Type 0 where
  pub own : IsPassOf words after
  pub on : PassGoesOn before after
  pub quiet : IsQuiet before after (key_place position)
  pub now : value ≢ 0 → seen_at (view_of after).keys position ≡ value

pub loaded_key : (words : Words) (before after : Pass) (position found : ℕ) → IsPassOf words before
    → IsPassOf words after → view_of after ≡ key_loaded position found (view_of before)
    → StaySeen (view_of before).keys (view_of after).keys → IsStepOn (key_place position) before after
    → IsKeyStep words before after position found
loaded_key words before after position found own own' e stays stepped = record {
  own = own';
  on =
      let quiet = key_load_is_quiet before after position found e stepped in
      sees_key words before after own own' (known_on before after (key_place position) quiet)
      stays (ap (λ (v : View). v.names) e);
  quiet = key_load_is_quiet before after position found e stepped;
  now = λ some.
      ap (λ (v : View). seen_at v.keys position) e ∙ unless_here position found (view_of before).keys some;
}

pub exchanged_key : (words : Words) (before after : Pass) (position code found : ℕ) → IsPassOf words before
    → IsPassOf words after → view_of after ≡ key_exchanged position code found (view_of before)
    → StaySeen (view_of before).keys (view_of after).keys → IsStepOn (key_place position) before after
    → IsKeyStep words before after position (if found == 0 then code else found)
exchanged_key words before after position code found own own' e stays stepped = record {
  own = own';
  on =
      let quiet = key_exchange_is_quiet before after position code found e stepped in
      sees_key words before after own own' (known_on before after (key_place position) quiet)
      stays (ap (λ (v : View). v.names) e);
  quiet = key_exchange_is_quiet before after position code found e stepped;
  now = λ some.
      ap (λ (v : View). seen_at v.keys position) e
      ∙ seen_here position (if found == 0 then code else found) (view_of before).keys;
}

abbrev pub IsSearching : Next → Type 0
IsSearching next = (next ≡ Key) ⊎ (next ≡ Claim)

module _ (words : Words) (before after : Pass) (was : Probe) (position value : ℕ) (own : IsPassOf words before)
    (follows : Follows was before) (at : position ≡ probed (plan_of words) (cell_code was.cell) was.turn)
    (step : IsKeyStep words before after position value)
    (few : (turn m : ℕ) → AreOthers (plan_of words) (view_of after) was.cell turn → IsDemandedCount
    (problem_of words) m → turn < m) where
  inside : position < slots_of (plan_of words)
  inside =
      subst (λ (n : ℕ). n < slots_of (plan_of words)) (sym at)
      (position_below (plan_of words) (cell_code was.cell) was.turn)

  outside : (key_place position < 1 + slots_of (plan_of words)) ⊎
      (1 + 2 * slots_of (plan_of words) ≤ key_place position)
  outside = inl (let i = inside in omega arith)

  others_before : IsSearching was.next → AreOthers (plan_of words) (view_of before) was.cell was.turn
  others_before (inl is) = due_here words before was Key own follows is
  others_before (inr is) = due_here words before was Claim own follows is

  others_after : IsSearching was.next → AreOthers (plan_of words) (view_of after) was.cell was.turn
  others_after is = others_on (plan_of words) before after was.cell was.turn step.on (others_before is)

  no_load : IsSearching was.next → loads_record was.next ≡ false
  no_load (inl is) = ap loads_record is
  no_load (inr is) = ap loads_record is

  at_least : (m : ℕ) → IsSearching was.next → 2 * (m - was.turn) + 4 ≤ steps_left m was.turn was.next
  at_least m (inl is) =
      let same : steps_left m was.turn was.next ≡ 2 * (m - was.turn) + 5 = ap (steps_left m was.turn) is in omega arith
  at_least m (inr is) =
      let same : steps_left m was.turn was.next ≡ 2 * (m - was.turn) + 4 = ap (steps_left m was.turn) is in omega arith

  go_on : (turn : ℕ) (next : Next) → IsSearching was.next → IsDue (plan_of words) after was.cell turn next
      → stage_of next ≡ stages.Open
      → ((m : ℕ) → IsDemandedCount (problem_of words) m → steps_left m turn next < steps_left m was.turn was.next)
      → ((m : ℕ) → IsDemandedCount (problem_of words) m → 0 < steps_left m turn next)
      → IsLooked words before after was (moved was turn next) Going
  go_on turn next is due still_open fewer some_left =
      going words before after was (moved was turn next) (key_place position) step.own step.on step.quiet outside
      refl (follows_now words before after was turn next own follows step.on due) (no_load is) fewer still_open
      some_left

  -- the position is free
  pub free_position : was.next ≡ Key → IsLooked words before after was (moved was was.turn Claim) Going
  free_position is =
      go_on was.turn Claim (inl is) (others_after (inl is)) refl
      (λ m count.
      let same : steps_left m was.turn was.next ≡ 2 * (m - was.turn) + 5 = ap (steps_left m was.turn) is in omega arith)
      (λ m count. omega arith)

  -- the cell's code stands there
  pub own_position : IsSearching was.next → value ≡ cell_code was.cell
      → IsLooked words before after was (moved was was.turn RecordWord) Going
  own_position is code =
      let some : value ≢ 0 = λ none. omega arith in
      let here : seen_at (view_of after).keys (probed (plan_of words) (cell_code was.cell) was.turn) ≡ cell_code
      was.cell =
      ap (seen_at (view_of after).keys) (sym at) ∙ step.now some ∙ code in
      go_on was.turn RecordWord is here refl
      (λ m count. let low = at_least m is in let less = few was.turn m (others_after is) count in omega arith)
      (λ m count. omega arith)

  -- another cell's code stands there
  others_too : IsSearching was.next → value ≢ 0 → value ≢ cell_code was.cell
      → AreOthers (plan_of words) (view_of after) was.cell (was.turn + 1)
  others_too is some other j below =
      dite (ℕ_discrete j was.turn)
      (λ same.
      let place : probed (plan_of words) (cell_code was.cell) j ≡ position =
      ap (probed (plan_of words) (cell_code was.cell)) same ∙ sym at in
      let here : seen_at (view_of after).keys (probed (plan_of words) (cell_code was.cell) j) ≡ value =
      ap (seen_at (view_of after).keys) place ∙ step.now some in
      ((let n = some in omega arith), λ e. other (sym here ∙ e)))
      (λ earlier. others_after is j (omega arith))

  pub other_position : IsSearching was.next → value ≢ 0 → value ≢ cell_code was.cell
      → IsLooked words before after was (moved was (was.turn + 1) Key) Going
  other_position is some other =
      let others = others_too is some other in
      go_on (was.turn + 1) Key is others refl
      (λ m count. let low = at_least m is in let less = few (was.turn + 1) m others count in omega arith)
      (λ m count. omega arith)

-- ---- the words within a table, and as contracts see them

pub loaded_here : (inside now : Words) → inside ≡ now → (before after : Pass) (position found : ℕ)
    → IsPassOf now before → IsPassOf inside after → view_of after ≡ key_loaded position found (view_of before)
    → StaySeen (view_of before).keys (view_of after).keys → IsStepOn (key_place position) before after
    → IsKeyStep now before after position found
loaded_here inside now here before after position found own own' e stays stepped =
    loaded_key now before after position found own (subst (λ (w : Words). IsPassOf w after) here own') e stays stepped

pub exchanged_here : (inside now : Words) → inside ≡ now → (before after : Pass) (position code found : ℕ)
    → IsPassOf now before → IsPassOf inside after → view_of after ≡ key_exchanged position code found (view_of before)
    → StaySeen (view_of before).keys (view_of after).keys → IsStepOn (key_place position) before after
    → IsKeyStep now before after position (if found == 0 then code else found)
exchanged_here inside now here before after position code found own own' e stays stepped =
    exchanged_key now before after position code found own (subst (λ (w : Words). IsPassOf w after) here own') e stays
    stepped

pub few_here : (inside now : Words) → inside ≡ now → (before after : Pass) (was : Probe) → IsPassOf now before
    → Follows was before → IsPlanned (plan_of now) → AreKeys (plan_of inside) (view_of after).keys
    → ((plan : Plan) → IsPlanned plan → (v : View) (cell : Cell) (turn m : ℕ) → AreKeys plan v.keys
    → IsDemanded plan.problem cell → HasCellCode cell → IsDemandedCount plan.problem m → AreOthers plan v cell turn
    → turn < m)
    → (turn m : ℕ) → AreOthers (plan_of now) (view_of after) was.cell turn → IsDemandedCount (problem_of now) m
    → turn < m
few_here inside now here before after was own follows planned keys law turn m others count =
    law (plan_of now) planned (view_of after) was.cell turn m
    (subst (λ (w : Words). AreKeys (plan_of w) (view_of after).keys) here keys)
    (demanded_by now before was own follows) follows.coded count others

-- a turn fits its number
pub next_turn : (inside now : Words) → inside ≡ now → (before after : Pass) (was : Probe) → IsPassOf now before
    → Follows was before → IsPlanned (plan_of now) → IsAdmissible (problem_of now)
    → AreKeys (plan_of inside) (view_of after).keys
    → ((plan : Plan) → IsPlanned plan → IsAdmissible plan.problem → (v : View) (cell : Cell) (turn : ℕ)
    → AreKeys plan v.keys → IsDemanded plan.problem cell → HasCellCode cell → AreOthers plan v cell turn
    → turn < most_cells)
    → PassGoesOn before after → IsSearching was.next → was.turn + 1 < 4294967296
next_turn inside now here before after was own follows planned admissible keys law on is =
    let others : AreOthers (plan_of now) (view_of before) was.cell was.turn = go is in
    let less = law (plan_of now) planned admissible (view_of after) was.cell was.turn
    (subst (λ (w : Words). AreKeys (plan_of w) (view_of after).keys) here keys)
    (demanded_by now before was own follows) follows.coded
    (others_on (plan_of now) before after was.cell was.turn on others) in
    omega arith
  where
    go : IsSearching was.next → AreOthers (plan_of now) (view_of before) was.cell was.turn
    go (inl key) = due_here now before was Key own follows key
    go (inr claim) = due_here now before was Claim own follows claim
