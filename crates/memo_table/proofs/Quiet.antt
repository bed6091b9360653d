-- Steps that leave alone what a pass knows and what it won.
use Rattle.std.proofs.Common.{◌≡◌, ℕ, List, Contains, refl, sym, ap, subst, ◌∙◌}
use Rattle.adp_model.specs.declared.cell.Cell.{Cell}
use Rattle.history_table.specs.declared.history.Deed.{Deed}
use Rattle.memo_words.specs.declared.part.Part.{Part}
use Rattle.memo_words.specs.declared.view.Seen.{Seen}
use Rattle.memo_words.specs.declared.view.View.{View}
use Rattle.memo_words.specs.Layout.{Plan, slots_of, records_of, key_place, arena_place}
use Rattle.memo_words.specs.Steps.{StaySeen}
use Rattle.memo_words.specs.Views.{seen_at, key_loaded, key_exchanged, counter_added, arena_stored, arena_loaded}
use Rattle.memo_words.specs.Passes.{view_of, HasStepped, IsPassOf}
use Rattle.memo_words.specs.declared.pass.Pass.{Pass}
use Rattle.memo_words.specs.declared.words.Words.{Words}
use Rattle.memo_table.specs.Meanings.{PassGoesOn}

-- the second pass is the first after one step on this word
abbrev pub IsStepOn : ℕ → Pass → Pass → Type 0
IsStepOn word before after = (deed : Deed) × (found : ℕ) × HasStepped word deed found before after

-- the pass is the first one after one step on this word, but for what it saw and what it stored
pub record IsQuiet (before after : Pass) (word : ℕ) : Type 0 where
  pub known : (view_of after).known ≡ (view_of before).known
  pub wins : (view_of after).wins ≡ (view_of before).wins
  pub weight : (view_of after).weight ≡ (view_of before).weight
  pub spare : (view_of after).spare ≡ (view_of before).spare
  pub stepped : IsStepOn word before after

quiet_by : (before after : Pass) (u : View) (word : ℕ) → view_of after ≡ u → u.known ≡ (view_of before).known
    → u.wins ≡ (view_of before).wins → u.weight ≡ (view_of before).weight → u.spare ≡ (view_of before).spare
    → IsStepOn word before after → IsQuiet before after word
quiet_by before after u word e known wins weight spare stepped = record {
  known = ap (λ (v : View). v.known) e ∙ known;
  wins = ap (λ (v : View). v.wins) e ∙ wins;
  weight = ap (λ (v : View). v.weight) e ∙ weight;
  spare = ap (λ (v : View). v.spare) e ∙ spare;
  stepped = stepped;
}

pub key_load_is_quiet : (before after : Pass) (position found : ℕ)
    → view_of after ≡ key_loaded position found (view_of before) → IsStepOn (key_place position) before after
    → IsQuiet before after (key_place position)
key_load_is_quiet before after position found e stepped =
    quiet_by before after (key_loaded position found (view_of before)) (key_place position) e refl refl refl refl stepped

pub key_exchange_is_quiet : (before after : Pass) (position code found : ℕ)
    → view_of after ≡ key_exchanged position code found (view_of before) → IsStepOn (key_place position) before after
    → IsQuiet before after (key_place position)
key_exchange_is_quiet before after position code found e stepped =
    quiet_by before after (key_exchanged position code found (view_of before)) (key_place position) e
    refl refl refl refl stepped

pub counter_is_quiet : (before after : Pass) (found : ℕ) → view_of after ≡ counter_added found (view_of before)
    → IsStepOn 0 before after → IsQuiet before after 0
counter_is_quiet before after found e stepped =
    quiet_by before after (counter_added found (view_of before)) 0 e refl refl refl refl stepped

pub arena_load_is_quiet : (before after : Pass) (plan : Plan) (part : Part) (number found : ℕ)
    → view_of after ≡ arena_loaded plan part number found (view_of before)
    → IsStepOn (arena_place (slots_of plan) (records_of plan) part number) before after
    → IsQuiet before after (arena_place (slots_of plan) (records_of plan) part number)
arena_load_is_quiet before after plan part number found e stepped =
    quiet_by before after (arena_loaded plan part number found (view_of before))
    (arena_place (slots_of plan) (records_of plan) part number) e refl refl refl refl stepped

pub arena_store_is_quiet : (before after : Pass) (plan : Plan) (part : Part) (number code : ℕ)
    → view_of after ≡ arena_stored plan part number code (view_of before)
    → IsStepOn (arena_place (slots_of plan) (records_of plan) part number) before after
    → IsQuiet before after (arena_place (slots_of plan) (records_of plan) part number)
arena_store_is_quiet before after plan part number code e stepped =
    quiet_by before after (arena_stored plan part number code (view_of before))
    (arena_place (slots_of plan) (records_of plan) part number) e refl refl refl refl stepped

-- ---- a pass goes on

own_on : (here : Words) (v w : Pass) → IsPassOf here v → IsPassOf here w
    → (words : Words) → IsPassOf words v → IsPassOf words w
own_on here v w before after words own = record {
  same = after.same ∙ sym before.same ∙ own.same;
  plan = after.plan ∙ sym before.plan ∙ own.plan;
}

module _ (words : Words) (v w : Pass) (before : IsPassOf words v) (after : IsPassOf words w)
    (known : (cell : Cell) → Contains (view_of v).known cell → Contains (view_of w).known cell) where
  -- a step that sees a key
  pub sees_key : StaySeen (view_of v).keys (view_of w).keys → (view_of w).names ≡ (view_of v).names → PassGoesOn v w
  sees_key stays names = record {
    own = own_on words v w before after;
    keys = stays;
    names = λ p full. ap (λ (s : List Seen). seen_at s p) names;
    known = known;
  }

  -- a step that sees a name
  pub sees_name : (view_of w).keys ≡ (view_of v).keys → StaySeen (view_of v).names (view_of w).names → PassGoesOn v w
  sees_name keys stays = record {
    own = own_on words v w before after;
    keys = λ p full. ap (λ (s : List Seen). seen_at s p) keys;
    names = stays;
    known = known;
  }

  -- a step that sees nothing
  pub sees_nothing : (view_of w).keys ≡ (view_of v).keys → (view_of w).names ≡ (view_of v).names → PassGoesOn v w
  sees_nothing keys names = record {
    own = own_on words v w before after;
    keys = λ p full. ap (λ (s : List Seen). seen_at s p) keys;
    names = λ p full. ap (λ (s : List Seen). seen_at s p) names;
    known = known;
  }

-- what was known is known after a quiet step
pub known_on : (before after : Pass) (word : ℕ) → IsQuiet before after word → (cell : Cell)
    → Contains (view_of before).known cell → Contains (view_of after).known cell
known_on before after word quiet cell has = subst (λ (l : List Cell). Contains l cell) (sym quiet.known) has
