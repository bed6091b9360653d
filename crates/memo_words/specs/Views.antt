-- What a view holds, and what each kind of step makes of it.
use Rattle.std.specs.Prelude.{◌≡◌, ℕ, ◌+◌, ◌-◌, ◌<◌, ◌≤◌, ◌==◌, length, List, [], ◌∷◌, ◌++◌, if◌then◌else◌, Option, Some, None}
use Rattle.atomic_table.specs.Table.{Me}
use Rattle.adp_model.specs.declared.cell.Cell.{Cell}
use Rattle.memo_words.specs.declared.part.Part.{Part}
use Rattle.memo_words.specs.declared.part.Part.TheVariants.{Score, Choice}
use Rattle.memo_words.specs.declared.view.LastStep.{LastStep}
use Rattle.memo_words.specs.declared.view.Seen.{Seen}
use Rattle.memo_words.specs.declared.view.Owned.{Owned}
use Rattle.memo_words.specs.declared.view.View.{View}
use Rattle.memo_words.specs.CodedCells.{cell_of}
use Rattle.memo_words.specs.Layout.{Plan, key_place, record_place, arena_place, slots_of, records_of}

-- what was seen at this position, and 0 where nothing was
abbrev pub seen_at : List Seen → ℕ → ℕ
seen_at [] position = 0
seen_at (e ∷ es) position = if e.position == position then e.value else seen_at es position

abbrev pub seen_too : ℕ → ℕ → List Seen → List Seen
seen_too position value seen = record { position = position; value = value } ∷ seen

-- the same where the value isn't 0
abbrev pub seen_unless_0 : ℕ → ℕ → List Seen → List Seen
seen_unless_0 position value seen = if value == 0 then seen else seen_too position value seen

-- how often a record stands among those owned
abbrev pub owns : ℕ → List Owned → ℕ
owns number [] = 0
owns number (e ∷ es) = (if e.number == number then 1 else 0) + owns number es

-- the owned records but for this one
abbrev pub dropped : ℕ → List Owned → List Owned
dropped number [] = []
dropped number (e ∷ es) = if e.number == number then es else e ∷ dropped number es

-- what is stored in a word of an owned record
abbrev pub stored : Part → Owned → ℕ
stored Score e = e.score
stored Choice e = e.choice

abbrev pub store_in : Part → ℕ → Owned → Owned
store_in Score code e = record { number = e.number; score = code; choice = e.choice }
store_in Choice code e = record { number = e.number; score = e.score; choice = code }

-- the owned records, with a code stored in this one
abbrev pub with_stored : Part → ℕ → ℕ → List Owned → List Owned
with_stored part number code [] = []
with_stored part number code (e ∷ es) =
    (if e.number == number then store_in part code e else e) ∷ with_stored part number code es

abbrev pub last_at : ℕ → ℕ → Option LastStep
last_at word value = Some (record { word = word; value = value })

-- the cell whose key was seen at this position
abbrev pub cell_at : View → ℕ → Cell
cell_at v position = cell_of (seen_at v.keys position)

-- how many records are in hand
abbrev pub hands : Option ℕ → ℕ
hands None = 0
hands (Some number) = 1

-- the hand after an exchange that found this: without the record, where it was named
abbrev pub hand_after : Option ℕ → ℕ → ℕ → Option ℕ
hand_after None number found = None
hand_after (Some held) number found = if found == 0 then (if held == number then None else Some held) else Some held

-- the hand of two passes in one: the first one's, where there is one
abbrev pub hand_of_both : Option ℕ → Option ℕ → Option ℕ
hand_of_both None other = other
hand_of_both (Some held) other = Some held

-- what every pass keeps, with the record that it has in hand: it is live; it owns the record in hand, and beside that
-- one fewer records than its weight; and the records that it owns or saw named are there
abbrev pub IsSound : Option ℕ → Me ℕ View → Type 0
IsSound hand me =
    (me.1 ≡ []) × (0 < me.0.weight)
    × ((number : ℕ) → hand ≡ Some number → 0 < owns number me.0.owned)
    × (length me.0.owned < me.0.weight + hands hand)
    × ((plan : Plan) (number : ℕ) → me.0.plan ≡ Some plan → 0 < owns number me.0.owned → number < records_of plan)
    × ((plan : Plan) (position : ℕ) → me.0.plan ≡ Some plan → seen_at me.0.names position ≤ records_of plan)

-- The kinds of step.

-- make: a view that knows nothing
abbrev pub first_view : Plan → View
first_view plan = record {
  plan = Some plan;
  keys = [];
  names = [];
  known = [];
  owned = [];
  wins = 0;
  weight = 1;
  spare = plan.seats - 1;
  last = None;
}

-- split: what is left of the view that is split, and the new view
abbrev pub after_split : View → View
after_split v = record v { spare = v.spare - 1 }

abbrev pub split_off : View → View
split_off v = record v { owned = []; wins = 0; weight = 1; spare = 0; last = None }

-- join: both views in one, and what the other is left with
abbrev pub joined : View → View → View
joined v w = record v {
  keys = v.keys ++ w.keys;
  names = v.names ++ w.names;
  known = v.known ++ w.known;
  owned = v.owned ++ w.owned;
  wins = v.wins + w.wins;
  weight = v.weight + w.weight;
  spare = v.spare + w.spare;
}

abbrev pub spent : View
spent = record {
  plan = None;
  keys = [];
  names = [];
  known = [];
  owned = [];
  wins = 0;
  weight = 0;
  spare = 0;
  last = None;
}

-- load of a key word
abbrev pub key_loaded : ℕ → ℕ → View → View
key_loaded position found v =
    record v {
      keys = seen_unless_0 position found v.keys;
      last = last_at (key_place position) found;
    }

-- exchange of a key word from 0 to a code
abbrev pub key_exchanged : ℕ → ℕ → ℕ → View → View
key_exchanged position code found v =
    record v {
      keys = seen_too position (if found == 0 then code else found) v.keys;
      last = last_at (key_place position) found;
    }

-- load of a record word
abbrev pub record_loaded : Plan → ℕ → ℕ → View → View
record_loaded plan position found v =
    record v {
      names = seen_unless_0 position found v.names;
      known = (if found == 0 then v.known else cell_at v position ∷ v.known);
      last = last_at (record_place (slots_of plan) position) found;
    }

-- exchange of a record word from 0 to the name of a record
abbrev pub record_exchanged : Plan → ℕ → ℕ → ℕ → View → View
record_exchanged plan position number found v =
    record v {
      known = cell_at v position ∷ v.known;
      owned = (if found == 0 then dropped number v.owned else v.owned);
      wins = (if found == 0 then v.wins + 1 else v.wins);
      last = last_at (record_place (slots_of plan) position) found;
    }

-- fetch_add of the counter
abbrev pub counter_added : ℕ → View → View
counter_added found v =
    record v {
      owned = record { number = found; score = 0; choice = 0 } ∷ v.owned;
      last = last_at 0 found;
    }

-- store in a word of a record
abbrev pub arena_stored : Plan → Part → ℕ → ℕ → View → View
arena_stored plan part number code v =
    record v {
      owned = with_stored part number code v.owned;
      last = last_at (arena_place (slots_of plan) (records_of plan) part number) code;
    }

-- load of a word of a record
abbrev pub arena_loaded : Plan → Part → ℕ → ℕ → View → View
arena_loaded plan part number found v =
    record v { last = last_at (arena_place (slots_of plan) (records_of plan) part number) found }
