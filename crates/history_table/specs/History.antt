-- The history of a table: every step that was made on its words, in order.
use Rattle.std.specs.Prelude.{◌≡◌, ℕ, zero, suc, ◌+◌, ◌-◌, ◌%◌, ◌^◌, ◌<◌, ◌==◌, List, [], ◌∷◌, ◌++◌, map, length, replicate, slice_index, slice_set, if◌then◌else◌, All, sum_by}
use mathlib.Core.Option.{some}
use lib.ListN.{get_elem?}
use prog.Atomic.{either}
use Rattle.atomic_table.specs.Table.{State, Me, Step}
use Rattle.history_table.specs.declared.history.Deed.{Deed}
use Rattle.history_table.specs.declared.history.Deed.TheVariants.{Load, Store, Exchange, Add}
use Rattle.history_table.specs.declared.history.Event.{Event}
use Rattle.history_table.specs.declared.history.Mark.{Mark}
use Rattle.history_table.specs.declared.history.WithMarks.{WithMarks}

-- the number that a deed leaves where it found this one
abbrev pub left_by : Deed → ℕ → ℕ
left_by Load found = found
left_by (Store new) found = new
left_by (Exchange old new) found = either (found == old) new found
left_by (Add k) found = (found + k) % 2 ^ 64

-- played from the first words on, each event finds what it says, and the last words are left
abbrev pub Replays : List ℕ → List Event → List ℕ → Type 0
Replays words [] last = words ≡ last
Replays words (e ∷ es) last =
    (slice_index words e.word ≡ e.found) × Replays (slice_set words e.word (left_by e.deed e.found)) es last

abbrev pub zeros : ℕ → List ℕ
zeros n = replicate n 0

-- how many marks are at this moment
abbrev pub times : ℕ → List Mark → ℕ
times moment marks = sum_by (λ m. if m.moment == moment then 1 else 0) marks

-- 1 where the moment is below the number, and else 0
abbrev pub once_below : ℕ → ℕ → ℕ
once_below moment zero = 0
once_below moment (suc n) = (if n == moment then 1 else 0) + once_below moment n

-- the mark's event stands in the history at the mark's moment
abbrev pub IsTrueMark : List Event → Mark → Type 0
IsTrueMark history m = get_elem? history m.moment ≡ some m.event

abbrev pub event : ℕ → Deed → ℕ → Event
event word deed found = record { word = word; deed = deed; found = found }

abbrev pub mark : ℕ → ℕ → Deed → ℕ → Mark
mark moment word deed found = record { moment = moment; event = event word deed found }

-- These marks are one whole history: from words of 0 it leads to these words, each event finding what stood there; each
-- mark is an event, and each event is one mark
pub record IsHistoryOf (marks : List Mark) (words : List ℕ) : Type 0 where
  pub history : List Event
  pub replays : Replays (zeros (length words)) history words
  pub marks_are : All (IsTrueMark history) marks
  pub once : (moment : ℕ) → times moment marks ≡ once_below moment (length history)

module _ {V : Type 0} where
  abbrev pub bare : WithMarks V → V
  bare v = v.view

  abbrev pub parts_of : WithMarks V → ℕ
  parts_of v = v.parts

  abbrev pub times_of : ℕ → WithMarks V → ℕ
  times_of moment v = times moment v.marks

  -- the marks of a view are true; a view with no part of the whole has none
  pub record HasTrueMarks (history : List Event) (v : WithMarks V) : Type 0 where
    pub marks_are : All (IsTrueMark history) v.marks
    pub idle : v.parts ≡ 0 → v.marks ≡ []

  -- the view w has just one mark more than v: this step, at a moment after all its marks
  abbrev pub HasMarked : ℕ → Deed → ℕ → WithMarks V → WithMarks V → Type 0
  HasMarked word deed found v w =
      (moment : ℕ) × (w.marks ≡ v.marks ++ mark moment word deed found ∷ [])
      × All (λ m. m.moment < moment) v.marks × (w.parts ≡ v.parts)

  abbrev pub with_marks : V → List Mark → ℕ → WithMarks V
  with_marks v marks parts = record { view = v; marks = marks; parts = parts }

  abbrev pub first_marked : ℕ → V → WithMarks V
  first_marked seats v = with_marks v [] seats

  abbrev pub left_marked : (V → V) → WithMarks V → WithMarks V
  left_marked left v = with_marks (left v.view) v.marks (v.parts - 1)

  abbrev pub right_marked : (V → V) → WithMarks V → WithMarks V
  right_marked right v = with_marks (right v.view) [] 1

  abbrev pub both_marked : (V → V → V) → WithMarks V → WithMarks V → WithMarks V
  both_marked both v w = with_marks (both v.view w.view) (v.marks ++ w.marks) (v.parts + w.parts)

  abbrev pub spent_marked : V → WithMarks V
  spent_marked v = with_marks v [] 0

module _ {S V : Type 0} where
  abbrev pub bare_me : Me S (WithMarks V) → Me S V
  bare_me me = (me.0.view, me.1)

  abbrev pub bare_state : State S (WithMarks V) → State S V
  bare_state s = record { words = s.words; homes = s.homes; views = map bare s.views }

  -- The rule, and that there is one history: from words of 0 it leads to the words as they stand, each event finding
  -- what stood there; each mark of a view is its event; and each event is the mark of one view, once
  pub record KeptWithHistory (holds : State S V → Type 0) (seats : ℕ) (s : State S (WithMarks V)) : Type 0 where
    pub kept : holds (bare_state s)
    pub history : List Event
    pub replays : Replays (zeros (length s.words)) history s.words
    pub each : (i : ℕ) (v : WithMarks V) → get_elem? s.views i ≡ some v → HasTrueMarks history v
    pub once : (moment : ℕ) → sum_by (times_of moment) s.views ≡ once_below moment (length history)
    pub whole : sum_by parts_of s.views ≡ seats

  -- What a step tells: what the caller's play tells, and that the step stands in the history with the number found

  abbrev pub marked_by : (Step S → Deed) → (Step S → Me S V → ℕ → Me S V → Type 0) → Step S
      → Me S (WithMarks V) → ℕ → Me S (WithMarks V) → Type 0
  marked_by deed tells step before found after =
      tells step (bare_me before) found (bare_me after) × HasMarked step.word (deed step) found before.0 after.0

  abbrev pub marked_store : (Step S → Me S V → ℕ → Me S V → Type 0) → Step S → Me S (WithMarks V) → ℕ
      → Me S (WithMarks V) → Type 0
  marked_store tells step before found after =
      tells step (bare_me before) found (bare_me after)
      × ((stood : ℕ) × HasMarked step.word (Store step.first) stood before.0 after.0)

module _ {S : Type 0} where
  abbrev pub as_load : Step S → Deed
  as_load step = Load

  abbrev pub as_exchange : Step S → Deed
  as_exchange step = Exchange step.first step.second

  abbrev pub as_add : Step S → Deed
  as_add step = Add step.first

-- The law that a view's new mark is true, of any two states of which the rule with its history holds
abbrev pub IsNewMarkTrue : {S V : Type 0} → (State S V → Type 0) → ℕ → Type 0
IsNewMarkTrue {S} {V} holds seats =
    (s t : State S (WithMarks V)) (id word found : ℕ) (deed : Deed) (v w : WithMarks V)
    → KeptWithHistory holds seats s → KeptWithHistory holds seats t → get_elem? s.views id ≡ some v
    → t.views ≡ slice_set s.views id w → length t.words ≡ length s.words → HasMarked word deed found v w
    → (slice_index s.words word ≡ found) × (t.words ≡ slice_set s.words word (left_by deed found))
