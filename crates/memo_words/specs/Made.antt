-- What is told of a pass's last step, beside what its view holds of it.
use Rattle.std.specs.Prelude.{◌≡◌, ℕ, Option, Some, None}
use Rattle.memo_words.specs.declared.view.LastStep.{LastStep}
use Rattle.memo_words.specs.declared.view.View.{View}
use Rattle.memo_words.specs.declared.word_step.Place.{Place}
use Rattle.memo_words.specs.declared.word_step.Place.TheVariants.{Counter, Key, RecordWord, Record}
use Rattle.memo_words.specs.declared.word_step.Action.{Action}
use Rattle.memo_words.specs.declared.word_step.WordStep.{WordStep}
use Rattle.memo_words.specs.Layout.{Plan, slots_of, records_of, key_place, record_place, arena_place}
use Rattle.memo_words.specs.Views.{last_at}

-- which of the words it is
abbrev pub word_of : Plan → Place → ℕ
word_of plan Counter = 0
word_of plan (Key position) = key_place position
word_of plan (RecordWord position) = record_place (slots_of plan) position
word_of plan (Record part number) = arena_place (slots_of plan) (records_of plan) part number

abbrev pub last_of : Plan → Option WordStep → Option LastStep
last_of plan None = None
last_of plan (Some step) = last_at (word_of plan step.place) step.value

-- the view's last step is this one
abbrev pub IsLast : Option WordStep → View → Type 0
IsLast made v = (plan : Plan) → v.plan ≡ Some plan → v.last ≡ last_of plan made

abbrev pub step_on : Place → Action → ℕ → Option WordStep
step_on place action value = Some (record { place = place; action = action; value = value })
