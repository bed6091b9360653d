-- The value of a word of digits, byte by byte.
use Rattle.std.proofs.Common.{◌≡◌, ℕ, ◌+◌, ◌-◌, ◌*◌, ◌^◌, ◌<◌, ◌≤◌, true, List, length, take, drop, get_or, refl, ◌∙◌, arith, None}
use Rattle.std.specs.Char.{is_ascii_digit, digit_value}
use Rattle.std.specs.Str.{all_ascii_digits}
use Rattle.std.specs.Str.Parse.{digits_value}
use Rattle.std.proofs.lemmas.List.{drop_more}
use Rattle.std.proofs.lemmas.Int.Digits.{digits_value_more}
use Rattle.std.proofs.lemmas.Str.Parse.{digits_value-take-le}
use Rattle.job_texts.specs.TermText.{number_of}

digit_is : (byte : ℕ) → is_ascii_digit byte ≡ true → digit_value byte ≡ byte - 48
digit_is byte h = grind arith

-- a digit more
pub digit_more : (word : List ℕ) (i : ℕ) → i < length word → all_ascii_digits word ≡ all_ascii_digits (drop i word)
    → is_ascii_digit (get_or word i 0) ≡ true → all_ascii_digits word ≡ all_ascii_digits (drop (i + 1) word)
digit_more word i inside same digit = same ∙ rw (drop_more word i 0 inside, digit) refl

pub value_more : (word : List ℕ) (i value : ℕ) → i < length word → is_ascii_digit (get_or word i 0) ≡ true
    → value ≡ digits_value 10 (take i word) → value * 10 + (get_or word i 0 - 48) ≡ digits_value 10 (take (i + 1) word)
value_more word i value inside digit is = rw (digits_value_more 10 word i inside, digit_is (get_or word i 0) digit, is) refl

-- a value that is too great on the way stays so
pub too_great : (word : List ℕ) (i value : ℕ) → value ≡ digits_value 10 (take i word) → 2 ^ 62 ≤ value → number_of word ≡ None
too_great word i value is great =
    let more = digits_value-take-le 10 word i (omega arith) in
    let beyond : 2 ^ 62 ≤ digits_value 10 word = omega arith in
    grind (arith, beyond)

pub digit_bounds : (byte : ℕ) → is_ascii_digit byte ≡ true → (48 ≤ byte) × (byte ≤ 57)
digit_bounds byte h = grind arith
