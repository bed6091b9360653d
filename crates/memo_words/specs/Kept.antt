-- The rule of the table: a fact about its words and the views of all passes, which holds between any two steps.
use Rattle.std.specs.Prelude.{◌≡◌, ℕ, ◌+◌, ◌-◌, ◌<◌, ◌≤◌, ◌==◌, List, min, length, if◌then◌else◌, Some, All, sum_by}
use mathlib.Core.Option.{some}
use lib.ListN.{get_elem?}
use Rattle.atomic_table.specs.Table.{State}
use Rattle.adp_model.specs.declared.cell.Answer.{Answer}
use Rattle.adp_model.specs.declared.cell.Cell.{Cell}
use Rattle.adp_model.specs.Answers.{IsAnswer}
use Rattle.adp_model.specs.Demand.{IsDemanded, IsDemandedChild}
use Rattle.memo_words.specs.declared.part.Part.{Part}
use Rattle.memo_words.specs.declared.view.Owned.{Owned}
use Rattle.memo_words.specs.declared.view.View.{View}
use Rattle.memo_words.specs.CodedCells.{IsCodeOf, answer_word}
use Rattle.memo_words.specs.Layout.{Plan, slots_of, records_of, probed, word_count, counter, key, record_word, arena_word, tally}
use Rattle.memo_words.specs.Views.{seen_at, owns, stored}

abbrev pub share : View → ℕ
share v = v.weight + v.spare

abbrev pub wins_of : View → ℕ
wins_of v = v.wins

abbrev pub count_owned : View → ℕ
count_owned v = length v.owned

module _ (plan : Plan) where
  module _ (words : List ℕ) where
    abbrev pub name : ℕ → ℕ
    name = record_word (slots_of plan) words

    abbrev pub arena : Part → ℕ → ℕ
    arena = arena_word (slots_of plan) (records_of plan) words

    -- the position holds the cell with this answer: its key word is the cell's code, its record word names a record,
    -- and that record's words are the answer's codes
    pub record IsHeldAt (position : ℕ) (cell : Cell) (answer : Answer) : Type 0 where
      pub inside : position < slots_of plan
      pub key_is : IsCodeOf cell (key words position)
      pub named : 0 < name position
      pub codes : (part : Part) → arena part (name position - 1) ≡ answer_word part answer

    abbrev pub IsPublished : Cell → Type 0
    IsPublished cell = (position : ℕ) × (answer : Answer) × IsHeldAt position cell answer

    -- the key at a position is the code of a demanded cell, and all positions before it in that cell's probe sequence
    -- have keys
    pub record StandsAt (position : ℕ) : Type 0 where
      pub cell : Cell
      pub code : IsCodeOf cell (key words position)
      pub demanded : IsDemanded plan.problem cell
      pub turn : ℕ
      pub here : probed plan (key words position) turn ≡ position
      pub before : (j : ℕ) → j < turn → 0 < key words (probed plan (key words position) j)

    -- how many record words name a record
    abbrev pub named : ℕ → ℕ
    named number = tally (λ position. if name position == number + 1 then 1 else 0) (slots_of plan)

    -- how many record words are not 0
    abbrev pub filled : ℕ
    filled = tally (λ position. min (name position) 1) (slots_of plan)

    -- how many of the record words and views hold a record
    abbrev pub holders : List View → ℕ → ℕ
    holders views number = named number + sum_by (λ v. owns number v.owned) views

    -- the record's words are what its owner stored
    abbrev pub IsStored : Owned → Type 0
    IsStored e = (part : Part) → arena part e.number ≡ stored part e

    -- what is so of each view; one that was joined away is spent, and counts for nothing
    pub record Fits (v : View) : Type 0 where
      -- one seat count
      pub plan_is : 0 < v.weight → v.plan ≡ Some plan
      pub spent : v.weight ≡ 0 → (v.spare ≡ 0) × (v.wins ≡ 0)
      -- views are true
      pub keys : (position : ℕ) → 0 < seen_at v.keys position
          → (position < slots_of plan) × (key words position ≡ seen_at v.keys position)
      pub names : (position : ℕ) → 0 < seen_at v.names position
          → (position < slots_of plan) × (name position ≡ seen_at v.names position)
      pub known : All IsPublished v.known
      pub stored : All IsStored v.owned
      -- few records in hand
      pub few : count_owned v ≤ v.weight

  pub record Kept (s : State ℕ View) : Type 0 where
    pub wide : length s.words ≡ word_count (slots_of plan) (records_of plan)
    -- one seat count
    pub shares : sum_by share s.views ≡ plan.seats
    -- key chains
    pub keys : (position : ℕ) → position < slots_of plan → 0 < key s.words position → StandsAt s.words position
    -- one place per cell
    pub apart : (i j : ℕ) → i < slots_of plan → j < slots_of plan → 0 < key s.words i
        → key s.words i ≡ key s.words j → i ≡ j
    -- one owner per record: a record word or a view holds it, and only one, and none holds a number past the counter
    pub held : (number : ℕ) → number < counter s.words → holders s.words s.views number ≡ 1
    pub free : (number : ℕ) → counter s.words ≤ number → holders s.words s.views number ≡ 0
    pub keyed : (position : ℕ) → position < slots_of plan → 0 < name s.words position → 0 < key s.words position
    -- records hold answers
    pub answered : (position : ℕ) → position < slots_of plan → 0 < name s.words position
        → (cell : Cell) × (answer : Answer) × IsAnswer plan.problem cell answer × IsHeldAt s.words position cell answer
    pub past : (part : Part) (number : ℕ) → counter s.words ≤ number → number < records_of plan
        → arena s.words part number ≡ 0
    -- closed under demand
    pub closed : (cell child : Cell) → IsPublished s.words cell → IsDemandedChild plan.problem cell child
        → IsPublished s.words child
    -- wins are publications
    pub wins : sum_by wins_of s.views ≡ filled s.words
    -- what is so of each view
    pub each : (i : ℕ) (v : View) → get_elem? s.views i ≡ some v → Fits s.words v
    -- and what follows: the counter is the number of records named and owned, and there is room for them
    pub counted : counter s.words ≡ filled s.words + sum_by count_owned s.views
    pub room : counter s.words ≤ records_of plan
