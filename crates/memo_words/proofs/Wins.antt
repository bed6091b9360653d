-- Which steps are wins: the exchanges of record words that find 0.
use Rattle.std.proofs.Common.{◌≡◌, ℕ, ◌+◌, ◌*◌, ◌<◌, ◌==◌, Bool, true, false, ◌&&◌, if◌then◌else◌, nat_lt, sym, ap, ◌∙◌, arith}
use Rattle.std.proofs.lemmas.Bool.{lt-ltb, le-ltb}
use mathlib.Core.Logic.{dite}
use native.Mathlib.Decide.{ℕ_discrete}
use Rattle.history_table.specs.declared.history.Deed.TheVariants.{Exchange}
use Rattle.history_table.specs.History.{event}
use Rattle.memo_words.specs.Layout.{key_place, record_place}
use Rattle.memo_words.specs.Passes.{is_record_word, won_by}
use Rattle.memo_words.proofs.Records.{is_yes, is_no}

abbrev one_if : Bool → ℕ
one_if b = if b then 1 else 0

-- a key word comes before the record words
pub key_wins_nothing : (slots position old new found : ℕ) → position < slots
    → won_by slots (event (key_place position) (Exchange old new) found) ≡ 0
key_wins_nothing slots position old new found low =
    let out : nat_lt slots (key_place position) ≡ false = le-ltb slots (key_place position) (omega arith) in
    let one : one_if (is_record_word slots (key_place position)) ≡ 0 =
    ap (λ (b : Bool). one_if (b && nat_lt (key_place position) (1 + 2 * slots))) out in
    dite (ℕ_discrete found 0)
    (λ none. is_yes found 0 (one_if (is_record_word slots (key_place position))) 0 none ∙ one)
    (λ some. is_no found 0 (one_if (is_record_word slots (key_place position))) 0 some)

-- the wins rise where the record word was 0
pub record_wins : (slots position old new found wins : ℕ) → position < slots
    → (if found == 0 then wins + 1 else wins)
    ≡ wins + won_by slots (event (record_place slots position) (Exchange old new) found)
record_wins slots position old new found wins low =
    let word = record_place slots position in
    let behind : nat_lt slots word ≡ true = lt-ltb slots word (omega arith) in
    let before : nat_lt word (1 + 2 * slots) ≡ true = lt-ltb word (1 + 2 * slots) (omega arith) in
    let one : one_if (is_record_word slots word) ≡ 1 = λ i. one_if (behind i && before i) in
    dite (ℕ_discrete found 0)
    (λ none. is_yes found 0 (wins + 1) wins none
    ∙ ap (λ (n : ℕ). wins + n) (sym (is_yes found 0 (one_if (is_record_word slots word)) 0 none ∙ one)))
    (λ some. is_no found 0 (wins + 1) wins some
    ∙ (let same : wins ≡ wins + 0 = omega arith in same)
    ∙ ap (λ (n : ℕ). wins + n) (sym (is_no found 0 (one_if (is_record_word slots word)) 0 some)))

pub nothing_won : (wins : ℕ) → wins ≡ wins + 0
nothing_won wins = omega arith
