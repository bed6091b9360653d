-- What the step of a look on a record word tells.
use Rattle.std.proofs.Common.{◌≡◌, ◌≢◌, ℕ, zero, suc, ◌+◌, ◌-◌, ◌<◌, ◌⊎◌, inl, inr, List, ◌∷◌, [], Contains, Some, true, refl, sym, ap, subst, ◌∙◌, arith}
use Rattle.adp_model.specs.declared.cell.Cell.{Cell}
use Rattle.memo_model.specs.declared.probe.Look.TheVariants.{Going, Unpublished}
use Rattle.memo_model.specs.Memos.{HasLoaded}
use Rattle.history_table.specs.declared.history.Deed.TheVariants.{Load}
use Rattle.history_table.specs.History.{event}
use Rattle.memo_words.specs.declared.view.Seen.{Seen}
use Rattle.memo_words.specs.declared.view.View.{View}
use Rattle.memo_words.specs.Codes.{cell_code}
use Rattle.memo_words.specs.CodedCells.{cell_of}
use Rattle.memo_words.specs.Layout.{slots_of, probed, record_place}
use Rattle.memo_words.specs.Views.{seen_at, cell_at, record_loaded}
use Rattle.memo_words.specs.Steps.{StaySeen}
use Rattle.memo_words.specs.Passes.{view_of, plan_of, HasStepped, IsPassOf}
use Rattle.memo_words.specs.declared.pass.Pass.{Pass}
use Rattle.memo_words.specs.declared.words.Words.{Words}
use Rattle.memo_table.specs.declared.probe.Next.TheVariants.{RecordWord, Choice, Reserve}
use Rattle.memo_table.specs.declared.probe.Probe.{Probe}
use Rattle.memo_table.specs.Probes.{loads_record, steps_left, Stands, Follows}
use Rattle.memo_table.specs.Meanings.{last_event, table_meaning, knows, PassGoesOn}
use Rattle.memo_table.specs.Stepped.{IsLooked}
use Rattle.memo_table.proofs.Places.{position_below, cell_of_code, last_is, on_record, found_there}
use Rattle.memo_table.proofs.Seeing.{if_equal, if_other, unless_here}
use Rattle.memo_table.proofs.Quiet.{sees_name}
use Rattle.memo_table.proofs.Looks.{moved, follows_now, due_here}

pub there : (xs : List Cell) (y x : Cell) → Contains xs x → Contains (y ∷ xs) x
there xs y x (k, inside, here) = (suc k, omega arith, here)

pub first_or_rest : (xs : List Cell) (y x : Cell) → Contains (y ∷ xs) x → (y ≡ x) ⊎ Contains xs x
first_or_rest xs y x (zero, inside, here) = inl here
first_or_rest xs y x (suc k, inside, here) = inr (k, omega arith, here)

module _ (words : Words) (before after : Pass) (was : Probe) (position found : ℕ) (own : IsPassOf words before)
    (follows : Follows was before) (is : was.next ≡ RecordWord)
    (at : position ≡ probed (plan_of words) (cell_code was.cell) was.turn) (own' : IsPassOf words after)
    (e : view_of after ≡ record_loaded (plan_of words) position found (view_of before))
    (stepped : HasStepped (record_place (slots_of (plan_of words)) position) Load found before after)
    (stays : StaySeen (view_of before).names (view_of after).names) where
  inside : position < slots_of (plan_of words)
  inside =
      subst (λ (n : ℕ). n < slots_of (plan_of words)) (sym at)
      (position_below (plan_of words) (cell_code was.cell) was.turn)

  stands : seen_at (view_of before).keys position ≡ cell_code was.cell
  stands = ap (seen_at (view_of before).keys) at ∙ due_here words before was RecordWord own follows is

  keys : (view_of after).keys ≡ (view_of before).keys
  keys = ap (λ (v : View). v.keys) e

  stands_after : Stands (plan_of words) (view_of after) was.cell was.turn
  stands_after =
      ap (λ (s : List Seen). seen_at s (probed (plan_of words) (cell_code was.cell) was.turn)) keys
      ∙ due_here words before was RecordWord own follows is

  its_cell : cell_at (view_of before) position ≡ was.cell
  its_cell = ap cell_of stands ∙ cell_of_code was.cell follows.coded

  last : last_event after ≡ Some (event (record_place (slots_of (plan_of words)) position) Load found)
  last = last_is before after (record_place (slots_of (plan_of words)) position) Load found stepped

  there_now : HasLoaded table_meaning after was.cell found
  there_now =
      on_record after (plan_of words) was.cell (record_place (slots_of (plan_of words)) position) Load found own'.plan last
      position refl inside (ap (λ (s : List Seen). seen_at s position) keys ∙ stands)

  found_is : (f : ℕ) → HasLoaded table_meaning after was.cell f → found ≡ f
  found_is f =
      found_there after (plan_of words) was.cell (record_place (slots_of (plan_of words)) position) Load found own'.plan last Load f

  loads : loads_record was.next ≡ true
  loads = ap loads_record is

  left : (m : ℕ) → steps_left m was.turn was.next ≡ 5
  left m = ap (steps_left m was.turn) is

  -- no record is named
  pub no_record : found ≡ 0 → (Contains (view_of before).known (cell_at (view_of before) position) → 0 < found)
      → IsLooked words before after was (moved was was.turn Reserve) Unpublished
  no_record none known_then =
      let known : (view_of after).known ≡ (view_of before).known =
      ap (λ (v : View). v.known) e
      ∙ if_equal found 0 (view_of before).known (cell_at (view_of before) position ∷ (view_of before).known) none in
      let on : PassGoesOn before after =
      sees_name words before after own own' (λ cell has. subst (λ (l : List Cell). Contains l cell) (sym known) has)
      keys stays in
      record {
        own = own';
        on = on;
        share = ap (λ (v : View). v.weight ∷ v.spare ∷ []) e;
        wins = ap (λ (v : View). v.wins) e;
        known = on.known;
        cell = refl;
        follows = follows_now words before after was was.turn Reserve own follows on stands_after;
        look = (
          refl,
          λ other has. subst (λ (l : List Cell). Contains l other) known has,
          λ has.
              let some = known_then (subst (Contains (view_of before).known) (sym its_cell) has) in omega arith,
        );
        loads = ((λ load. (found, there_now)), λ there'. loads);
        unpublished = ((λ e'. subst (HasLoaded table_meaning after was.cell) none there_now), λ there'. refl);
        fewer = λ m count. let five = left m in omega arith;
        some_left = λ m count e'. cc;
        two_left = λ m f count there' full. let same = found_is f there' in omega arith;
        four_left = λ m count e'. refl;
      }

  -- a record is named, and the cell is known from now on
  pub some_record : found ≢ 0
      → IsLooked words before after was (moved was was.turn (Choice (found - 1))) Going
  some_record some =
      let known : (view_of after).known ≡ was.cell ∷ (view_of before).known =
      ap (λ (v : View). v.known) e
      ∙ if_other found 0 (view_of before).known (cell_at (view_of before) position ∷ (view_of before).known) some
      ∙ ap (λ (c : Cell). c ∷ (view_of before).known) its_cell in
      let kept : (cell : Cell) → knows before cell → knows after cell =
      λ cell has.
      subst (λ (l : List Cell). Contains l cell) (sym known) (there (view_of before).known was.cell cell has) in
      let on : PassGoesOn before after = sees_name words before after own own' kept keys stays in
      let named : seen_at (view_of after).names (probed (plan_of words) (cell_code was.cell) was.turn) ≡ found - 1 + 1 =
      ap (seen_at (view_of after).names) (sym at)
      ∙ ap (λ (v : View). seen_at v.names position) e
      ∙ unless_here position found (view_of before).names some
      ∙ (let back : found ≡ found - 1 + 1 = omega arith in back) in
      let here : knows after was.cell =
      subst (λ (l : List Cell). Contains l was.cell) (sym known) (0, omega arith, refl) in
      record {
        own = own';
        on = on;
        share = ap (λ (v : View). v.weight ∷ v.spare ∷ []) e;
        wins = ap (λ (v : View). v.wins) e;
        known = kept;
        cell = refl;
        follows =
            follows_now words before after was was.turn (Choice (found - 1)) own follows on
            (record { stands = stands_after; named = named; known = here });
        look = (
          refl,
          λ other has not. other_known other not
              (first_or_rest (view_of before).known was.cell other
              (subst (λ (l : List Cell). Contains l other) known has)),
        );
        loads = ((λ load. (found, there_now)), λ there'. loads);
        unpublished = ((λ e'. cc), λ there'. absurd (some (found_is 0 there')));
        fewer = λ m count. let five = left m in omega arith;
        some_left = λ m count e'. omega arith;
        two_left = λ m f count there' full. omega arith;
        four_left = λ m count e'. cc;
      }
    where
      other_known : (other : Cell) → (other ≡ was.cell → ⊥) → (was.cell ≡ other) ⊎ Contains (view_of before).known other
          → knows before other
      other_known other not (inl same) = absurd (not (sym same))
      other_known other not (inr has) = has
