-- What the steps of a publication tell.
use Rattle.std.proofs.Common.{◌≡◌, ◌≢◌, ℕ, zero, suc, ◌+◌, ◌*◌, ◌<◌, ◌≤◌, ◌⊎◌, inl, inr, List, ◌∷◌, [], Contains, Some, if◌then◌else◌, ◌==◌, nat_eq, refl, sym, ap, subst, ◌∙◌, arith}
use mathlib.Core.Logic.{dite}
use native.Mathlib.Decide.{ℕ_discrete}
use Rattle.adp_model.specs.declared.cell.Answer.{Answer}
use Rattle.adp_model.specs.declared.cell.Cell.{Cell}
use Rattle.memo_model.specs.declared.probe.Publish.TheVariants.{Going, Won, Lost}
use Rattle.memo_model.specs.declared.probe.Stage.TheVariants as stages
use Rattle.adp_model.specs.Answers.{IsAnswer}
use Rattle.memo_model.specs.Memos.{IsOnRecordWord, HasExchanged, IsAdded}
use Rattle.history_table.specs.declared.history.Deed.{Deed}
use Rattle.history_table.specs.declared.history.Deed.TheVariants.{Exchange}
use Rattle.history_table.specs.History.{event}
use Rattle.memo_words.specs.declared.part.Part.{Part}
use Rattle.memo_words.specs.declared.part.Part.TheVariants as parts
use Rattle.memo_words.specs.declared.view.Owned.{Owned}
use Rattle.memo_words.specs.declared.view.Seen.{Seen}
use Rattle.memo_words.specs.declared.view.View.{View}
use Rattle.memo_words.specs.Codes.{cell_code}
use Rattle.memo_words.specs.CodedCells.{cell_of, answer_word}
use Rattle.memo_words.specs.Layout.{Plan, slots_of, records_of, probed, record_place, arena_place}
use Rattle.memo_words.specs.Views.{seen_at, owns, stored, store_in, with_stored, counter_added, arena_stored, record_exchanged}
use Rattle.memo_words.specs.Passes.{view_of, hand_of, plan_of, problem_of, HasStepped, IsPassOf}
use Rattle.memo_words.specs.declared.pass.Pass.{Pass}
use Rattle.memo_words.specs.declared.words.Words.{Words}
use Rattle.memo_table.specs.declared.probe.Next.{Next}
use Rattle.memo_table.specs.declared.probe.Next.TheVariants.{Reserve, StoreScore, StoreChoice, Publish, Done}
use Rattle.memo_table.specs.declared.probe.Probe.{Probe}
use Rattle.memo_table.specs.Probes.{stage_of, steps_left, Stands, IsHand, IsScorePart, IsFilled, IsDue, Follows}
use Rattle.memo_table.specs.Meanings.{last_event, table_meaning, knows, PassGoesOn}
use Rattle.memo_table.specs.Following.{stands_on}
use Rattle.memo_table.specs.Stepped.{IsPublished}
use Rattle.memo_table.proofs.Places.{position_below, cell_of_code, last_is, off_record, on_record, found_there}
use Rattle.memo_table.proofs.Seeing.{if_equal, if_other}
use Rattle.memo_table.proofs.Quiet.{IsStepOn, IsQuiet, counter_is_quiet, arena_store_is_quiet, known_on, sees_nothing}
use Rattle.memo_table.proofs.Looks.{moved, follows_now, due_here}
use Rattle.memo_table.proofs.NameLooks.{there, first_or_rest}

-- a step off the record words that goes on
module _ (words : Words) (before after : Pass) (was : Probe) (next : Next) (word : ℕ)
    (own : IsPassOf words before) (follows : Follows was before) (own' : IsPassOf words after)
    (on : PassGoesOn before after) (quiet : IsQuiet before after word)
    (outside : (word < 1 + slots_of (plan_of words)) ⊎ (1 + 2 * slots_of (plan_of words) ≤ word))
    (due : IsDue (plan_of words) after was.cell was.turn next) where
  off : (d : Deed) (f : ℕ) → IsOnRecordWord table_meaning after was.cell d f → ⊥
  off =
      let step = quiet.stepped in
      off_record after (plan_of words) was.cell word step.0 step.1 own'.plan
      (last_is before after word step.0 step.1 step.2) outside

  pub goes_on : stage_of next ≡ stages.Publishing
      → ((m : ℕ) → steps_left m was.turn next < steps_left m was.turn was.next)
      → ((m : ℕ) → 0 < steps_left m was.turn next) → IsPublished words before after was (moved was was.turn next) Going
  goes_on publishing fewer some_left = record {
    own = own';
    on = on;
    share = λ i. quiet.weight i ∷ quiet.spare i ∷ [];
    known = λ cell has. subst (λ (l : List Cell). Contains l cell) (sym quiet.known) has;
    cell = refl;
    follows = follows_now words before after was was.turn next own follows on due;
    publish = (publishing, λ cell has. subst (λ (l : List Cell). Contains l cell) quiet.known has, quiet.wins);
    won = ((λ e. cc), λ (name, at). absurd (off (Exchange 0 name) 0 at));
    lost = ((λ e. cc), λ (f, full, on). absurd (off (Exchange 0 on.0) f on.1));
    fewer = λ m count. fewer m;
    some_left = λ m count e. some_left m;
  }

-- ---- the record in hand

one_if : (m n : ℕ) → m ≡ n → if◌then◌else◌ {A = ℕ} (nat_eq m n) 1 0 ≡ 1
one_if m n e = if_equal m n 1 0 e

none_if : (m n : ℕ) → m ≢ n → if◌then◌else◌ {A = ℕ} (nat_eq m n) 1 0 ≡ 0
none_if m n e = if_other m n 1 0 e

-- a record is reserved
pub reserved : (words : Words) (before after : Pass) (was : Probe) (number : ℕ) → IsPassOf words before
    → Follows was before → was.next ≡ Reserve → IsPassOf words after
    → view_of after ≡ counter_added number (view_of before) → IsStepOn 0 before after → hand_of after ≡ Some number
    → IsPublished words before after was (moved was was.turn StoreScore) Going
reserved words before after was number own follows is own' e stepped hand =
    let quiet = counter_is_quiet before after number e stepped in
    let on : PassGoesOn before after =
    sees_nothing words before after own own' (known_on before after 0 quiet)
    (ap (λ (v : View). v.keys) e) (ap (λ (v : View). v.names) e) in
    let stands = stands_on (plan_of words) before after was.cell was.turn on
    (due_here words before was Reserve own follows is) in
    let one = one_if number number refl in
    let owned : 0 < owns number (counter_added number (view_of before)).owned = omega (arith, one) in
    let owned' : 0 < owns number (view_of after).owned =
    subst (λ (v : View). 0 < owns number v.owned) (sym e) owned in
    goes_on words before after was StoreScore 0 own follows own' on quiet (inl (omega arith))
    (stands, (number, record { hand = hand; owned = owned' })) refl
    (λ m. let four : steps_left m was.turn was.next ≡ 4 = ap (steps_left m was.turn) is in omega arith)
    (λ m. omega arith)

same_number : (m n : ℕ) → Some m ≡ Some n → m ≡ n
same_number m n e = cc

number_kept : (part : Part) (code : ℕ) (e : Owned) → (store_in part code e).number ≡ e.number
number_kept parts.Score code e = refl
number_kept parts.Choice code e = refl

owns_kept : (part : Part) (number code : ℕ) (owned : List Owned)
    → owns number (with_stored part number code owned) ≡ owns number owned
owns_kept part number code [] = refl
owns_kept part number code (e ∷ es) =
    let rest = owns_kept part number code es in
    dite (ℕ_discrete e.number number)
    (λ same.
    let first : (if e.number == number then store_in part code e else e) ≡ store_in part code e =
    if_equal e.number number (store_in part code e) e same in
    let number_is : (if e.number == number then store_in part code e else e).number ≡ e.number =
    ap (λ (x : Owned). x.number) first ∙ number_kept part code e in
    let ones = ap {B = ℕ} (λ (n : ℕ). if n == number then 1 else 0) number_is in
    omega (arith, ones, rest))
    (λ other.
    let first : (if e.number == number then store_in part code e else e) ≡ e =
    if_other e.number number (store_in part code e) e other in
    let number_is : (if e.number == number then store_in part code e else e).number ≡ e.number =
    ap (λ (x : Owned). x.number) first in
    let ones = ap {B = ℕ} (λ (n : ℕ). if n == number then 1 else 0) number_is in
    omega (arith, ones, rest))

-- a record that is owned stands among those owned
some_owned : (number : ℕ) (owned : List Owned) → 0 < owns number owned
    → (e : Owned) × Contains owned e × (e.number ≡ number)
some_owned number [] some = absurd (omega arith)
some_owned number (e ∷ es) some =
    dite (ℕ_discrete e.number number)
    (λ same. (e, (0, omega arith, refl), same))
    (λ other.
    let none = none_if e.number number other in
    let rest = some_owned number es (omega (arith, none, some)) in
    (rest.0, (suc rest.1.0, (let k = rest.1.1 in omega arith), rest.1.2), rest.2))

-- and with a word stored
stored_there : (part : Part) (number code : ℕ) (owned : List Owned) (e : Owned) → Contains owned e
    → e.number ≡ number → Contains (with_stored part number code owned) (store_in part code e)
stored_there part number code [] e (k, inside, here) same = absurd (omega arith)
stored_there part number code (x ∷ xs) e (zero, inside, here) same =
    let first : (if x.number == number then store_in part code x else x) ≡ store_in part code e =
    if_equal x.number number (store_in part code x) x (ap (λ (o : Owned). o.number) here ∙ same)
    ∙ ap (store_in part code) here in
    (0, omega arith, first)
stored_there part number code (x ∷ xs) e (suc k, inside, here) same =
    let rest = stored_there part number code xs e (k, omega arith, here) same in
    (suc rest.0, (let low = rest.1 in omega arith), rest.2)

arena_is_behind : (plan : Plan) (part : Part) (number : ℕ)
    → 1 + 2 * slots_of plan ≤ arena_place (slots_of plan) (records_of plan) part number
arena_is_behind plan parts.Score number = omega arith
arena_is_behind plan parts.Choice number = omega arith

module _ (words : Words) (before after : Pass) (was : Probe) (part : Part) (number code : ℕ)
    (own : IsPassOf words before) (in_hand : IsHand before number) (follows : Follows was before)
    (own' : IsPassOf words after) (e : view_of after ≡ arena_stored (plan_of words) part number code
    (view_of before)) (hand : hand_of after ≡ hand_of before)
    (stepped : IsStepOn (arena_place (slots_of (plan_of words)) (records_of (plan_of words)) part number) before after) where
  quiet : IsQuiet before after (arena_place (slots_of (plan_of words)) (records_of (plan_of words)) part number)
  quiet = arena_store_is_quiet before after (plan_of words) part number code e stepped

  on : PassGoesOn before after
  on =
      sees_nothing words before after own own'
      (known_on before after (arena_place (slots_of (plan_of words)) (records_of (plan_of words)) part number) quiet)
      (ap (λ (v : View). v.keys) e) (ap (λ (v : View). v.names) e)

  owned_is : (view_of after).owned ≡ with_stored part number code (view_of before).owned
  owned_is = ap (λ (v : View). v.owned) e

  hand_now : IsHand after number
  hand_now = record {
    hand = hand ∙ in_hand.hand;
    owned =
        subst (λ (n : ℕ). 0 < n)
        (sym (ap (owns number) owned_is ∙ owns_kept part number code (view_of before).owned)) in_hand.owned;
  }

  pub store_on : (next : Next) → IsDue (plan_of words) after was.cell was.turn next
      → stage_of next ≡ stages.Publishing
      → ((m : ℕ) → steps_left m was.turn next < steps_left m was.turn was.next)
      → ((m : ℕ) → 0 < steps_left m was.turn next) → IsPublished words before after was (moved was was.turn next) Going
  store_on next due publishing fewer some_left =
      goes_on words before after was next
      (arena_place (slots_of (plan_of words)) (records_of (plan_of words)) part number) own follows own' on quiet
      (inr (arena_is_behind (plan_of words) part number)) due publishing fewer some_left

  pub stands_now : Stands (plan_of words) (view_of before) was.cell was.turn
      → Stands (plan_of words) (view_of after) was.cell was.turn
  stands_now = stands_on (plan_of words) before after was.cell was.turn on

  -- the record in hand is filled as far as this
  pub filled : (Filled : Part → Type 0) (answer : Answer) (owned : Owned)
      → IsAnswer (problem_of words) was.cell answer → Contains (view_of before).owned owned → owned.number ≡ number
      → ((p : Part) → Filled p → stored p (store_in part code owned) ≡ answer_word p answer)
      → IsFilled (plan_of words) after was.cell Filled
  filled Filled answer owned right mine number_is words_are = record {
    number = number;
    hand = hand_now;
    answer = answer;
    is_answer = right;
    owned = store_in part code owned;
    mine =
        subst (λ (l : List Owned). Contains l (store_in part code owned)) (sym owned_is)
        (stored_there part number code (view_of before).owned owned mine number_is);
    number_is = number_kept part code owned ∙ number_is;
    words = words_are;
  }

-- the score is stored
score_filled : (owned : Owned) (code : ℕ) (answer : Answer) → code ≡ answer_word parts.Score answer → (p : Part)
    → IsScorePart p → stored p (store_in parts.Score code owned) ≡ answer_word p answer
score_filled owned code answer same parts.Score score = same
score_filled owned code answer same parts.Choice score = absurd score

pub score_stored : (words : Words) (before after : Pass) (was : Probe) (number code : ℕ) (answer : Answer)
    → IsPassOf words before → IsHand before number → Follows was before
    → (was.next ≡ Reserve) ⊎ (was.next ≡ StoreScore) → IsAnswer (problem_of words) was.cell answer
    → code ≡ answer_word parts.Score answer → IsPassOf words after
    → view_of after ≡ arena_stored (plan_of words) parts.Score number code (view_of before)
    → hand_of after ≡ hand_of before
    → IsStepOn (arena_place (slots_of (plan_of words)) (records_of (plan_of words)) parts.Score number) before after
    → IsPublished words before after was (moved was was.turn StoreChoice) Going
score_stored words before after was number code answer own in_hand follows is right same own' e hand stepped =
    let stands = go is in
    let mine = some_owned number (view_of before).owned in_hand.owned in
    store_on words before after was parts.Score number code own in_hand follows own' e hand stepped StoreChoice (
      stands_now words before after was parts.Score number code own in_hand follows own' e hand stepped stands,
      filled words before after was parts.Score number code own in_hand follows own' e hand stepped IsScorePart answer mine.0
          right mine.1 mine.2 (score_filled mine.0 code answer same),
    )
    refl less (λ m. omega arith)
  where
    go : (was.next ≡ Reserve) ⊎ (was.next ≡ StoreScore) → Stands (plan_of words) (view_of before) was.cell was.turn
    go (inl reserve) = due_here words before was Reserve own follows reserve
    go (inr score) = (due_here words before was StoreScore own follows score).0

    fewer : (m : ℕ) → (was.next ≡ Reserve) ⊎ (was.next ≡ StoreScore) → 2 < steps_left m was.turn was.next
    fewer m (inl reserve) =
        let four : steps_left m was.turn was.next ≡ 4 = ap (steps_left m was.turn) reserve in omega arith
    fewer m (inr score) =
        let three : steps_left m was.turn was.next ≡ 3 = ap (steps_left m was.turn) score in omega arith

    less : (m : ℕ) → 2 < steps_left m was.turn was.next
    less m = fewer m is

-- the choice is stored
both_filled : (owned : Owned) (code : ℕ) (answer : Answer) → owned.score ≡ answer_word parts.Score answer
    → code ≡ answer_word parts.Choice answer → (p : Part) → Unit {0}
    → stored p (store_in parts.Choice code owned) ≡ answer_word p answer
both_filled owned code answer score choice parts.Score any = score
both_filled owned code answer score choice parts.Choice any = choice

pub choice_stored : (words : Words) (before after : Pass) (was : Probe) (number code : ℕ) (answer : Answer)
    → IsPassOf words before → IsHand before number → Follows was before → was.next ≡ StoreChoice
    → IsAnswer (problem_of words) was.cell answer → code ≡ answer_word parts.Choice answer
    → ((a b : Answer) → IsAnswer (problem_of words) was.cell a → IsAnswer (problem_of words) was.cell b → a ≡ b)
    → IsPassOf words after → view_of after ≡ arena_stored (plan_of words) parts.Choice number code (view_of before)
    → hand_of after ≡ hand_of before
    → IsStepOn (arena_place (slots_of (plan_of words)) (records_of (plan_of words)) parts.Choice number) before after
    → IsPublished words before after was (moved was was.turn Publish) Going
choice_stored words before after was number code answer own in_hand follows is right same unique own' e hand stepped =
    let due = due_here words before was StoreChoice own follows is in
    let had = due.1 in
    let number_is = had.number_is ∙ same_number had.number number (sym had.hand.hand ∙ in_hand.hand) in
    let score = had.words parts.Score tt ∙ ap (answer_word parts.Score) (unique had.answer answer had.is_answer right)
    in
    store_on words before after was parts.Choice number code own in_hand follows own' e hand stepped Publish (
      stands_now words before after was parts.Choice number code own in_hand follows own' e hand stepped due.0,
      filled words before after was parts.Choice number code own in_hand follows own' e hand stepped (λ part. Unit {0}) answer
          had.owned right had.mine number_is (both_filled had.owned code answer score same),
    )
    refl
    (λ m. let two : steps_left m was.turn was.next ≡ 2 = ap (steps_left m was.turn) is in omega arith)
    (λ m. omega arith)

-- ---- the record word

module _ (words : Words) (before after : Pass) (was : Probe) (position number found : ℕ) (own : IsPassOf words before)
    (follows : Follows was before) (is : was.next ≡ Publish)
    (at : position ≡ probed (plan_of words) (cell_code was.cell) was.turn) (own' : IsPassOf words after)
    (e : view_of after ≡ record_exchanged (plan_of words) position number found (view_of before))
    (stepped : HasStepped (record_place (slots_of (plan_of words)) position) (Exchange 0 (number + 1)) found before after) where
  position_inside : position < slots_of (plan_of words)
  position_inside =
      subst (λ (n : ℕ). n < slots_of (plan_of words)) (sym at)
      (position_below (plan_of words) (cell_code was.cell) was.turn)

  stands : seen_at (view_of before).keys position ≡ cell_code was.cell
  stands = ap (seen_at (view_of before).keys) at ∙ (due_here words before was Publish own follows is).0

  keys : (view_of after).keys ≡ (view_of before).keys
  keys = ap (λ (v : View). v.keys) e

  known : (view_of after).known ≡ was.cell ∷ (view_of before).known
  known =
      ap (λ (v : View). v.known) e
      ∙ ap (λ (c : Cell). c ∷ (view_of before).known) (ap cell_of stands ∙ cell_of_code was.cell follows.coded)

  kept : (cell : Cell) → knows before cell → knows after cell
  kept cell has =
      subst (λ (l : List Cell). Contains l cell) (sym known) (there (view_of before).known was.cell cell has)

  on_now : PassGoesOn before after
  on_now = sees_nothing words before after own own' kept keys (ap (λ (v : View). v.names) e)

  last : last_event after ≡ Some
      (event (record_place (slots_of (plan_of words)) position) (Exchange 0 (number + 1)) found)
  last = last_is before after (record_place (slots_of (plan_of words)) position) (Exchange 0 (number + 1)) found stepped

  there_now : HasExchanged table_meaning after was.cell found
  there_now = (
    number + 1,
    on_record after (plan_of words) was.cell (record_place (slots_of (plan_of words)) position)
        (Exchange 0 (number + 1)) found own'.plan last
        position refl position_inside (ap (λ (s : List Seen). seen_at s position) keys ∙ stands),
  )

  found_is : (f : ℕ) → HasExchanged table_meaning after was.cell f → found ≡ f
  found_is f (name, on) =
      found_there after (plan_of words) was.cell (record_place (slots_of (plan_of words)) position)
      (Exchange 0 (number + 1)) found own'.plan last (Exchange 0 name) f on

  other_known : (other : Cell) → (other ≡ was.cell → ⊥) → (was.cell ≡ other) ⊎ Contains (view_of before).known other
      → knows before other
  other_known other not (inl same) = absurd (not (sym same))
  other_known other not (inr has) = has

  added : IsAdded was.cell (knows before) (knows after)
  added = record {
    known = subst (λ (l : List Cell). Contains l was.cell) (sym known) (0, omega arith, refl);
    only = λ other has not. other_known other not
        (first_or_rest (view_of before).known was.cell other (subst (λ (l : List Cell). Contains l other) known has));
  }

  one : (m : ℕ) → steps_left m was.turn was.next ≡ 1
  one m = ap (steps_left m was.turn) is

  followed : Follows (moved was was.turn Done) after
  followed = follows_now words before after was was.turn Done own follows on_now tt

  pub name_put : found ≡ 0 → IsPublished words before after was (moved was was.turn Done) Won
  name_put none = record {
    own = own';
    on = on_now;
    share = ap (λ (v : View). v.weight ∷ v.spare ∷ []) e;
    known = kept;
    cell = refl;
    follows = followed;
    publish = (
      refl,
      added,
      ap (λ (v : View). v.wins) e ∙ if_equal found 0 ((view_of before).wins + 1) (view_of before).wins none,
    );
    won = ((λ e'. subst (HasExchanged table_meaning after was.cell) none there_now), λ there'. refl);
    lost = ((λ e'. cc), λ (f, full, there'). let same = found_is f there' in absurd (omega arith));
    fewer = λ m count. let left = one m in omega arith;
    some_left = λ m count e'. cc;
  }

  pub name_found : found ≢ 0 → IsPublished words before after was (moved was was.turn Done) Lost
  name_found some = record {
    own = own';
    on = on_now;
    share = ap (λ (v : View). v.weight ∷ v.spare ∷ []) e;
    known = kept;
    cell = refl;
    follows = followed;
    publish = (
      refl,
      added,
      ap (λ (v : View). v.wins) e ∙ if_other found 0 ((view_of before).wins + 1) (view_of before).wins some,
    );
    won = ((λ e'. cc), λ there'. absurd (some (found_is 0 there')));
    lost = ((λ e'. (found, omega arith, there_now)), λ there'. refl);
    fewer = λ m count. let left = one m in omega arith;
    some_left = λ m count e'. cc;
  }
