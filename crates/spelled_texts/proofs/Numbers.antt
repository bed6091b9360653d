-- Spelled numbers as words, and what such words are read as.
use Rattle.std.proofs.Common.{◌≡◌, ◌≢◌, ℕ, suc, ◌^◌, ◌<◌, ◌≤◌, ℤ, pos, negsuc, Bool, true, false, nat_lt, nat_le, nat_eq, Some, List, [], ◌∷◌, length, refl, sym, arith, lit<}
use Rattle.std.specs.List.{list_all}
use Rattle.std.specs.Fmt.{decimal, signed_decimal}
use Rattle.std.specs.Char.{is_ascii_digit}
use Rattle.std.specs.Str.{all_ascii_digits}
use Rattle.std.specs.Str.Parse.{AllDigits}
use Rattle.std.specs.Cmp.Lexicographic.{same_text}
use Rattle.std.proofs.lemmas.Fmt.{decimal_is_IsNumeral, decimal_injective, length-decimal-le}
use Rattle.std.proofs.lemmas.Str.Parse.{digit_from_value}
use lib.Pointwise.{pointwise}
use Rattle.adp_model.specs.WellFormed.{is_word_byte, is_name, is_in_range}
use Rattle.job_texts.specs.TermText.{number_of}
use Rattle.job_texts.specs.TextFaults.{bound_of}
use Rattle.spelled_texts.proofs.ReadTokens.{IsWord}
use Rattle.spelled_texts.proofs.Printing.{Prints, prints-cons, word_prints}

digit_is_word_byte : (byte : ℕ) → (48 ≤ byte) × (byte ≤ 57) → (is_word_byte byte ≡ true) × (is_ascii_digit byte ≡ true)
digit_is_word_byte byte h = (grind (arith, h), grind (arith, h))

digits_are_word_bytes : (digits : List ℕ) → AllDigits 10 digits → (list_all is_word_byte digits ≡ true) × (all_ascii_digits digits ≡ true)
digits_are_word_bytes [] h = (refl, refl)
digits_are_word_bytes (byte ∷ digits) h =
    let bounds = digit_from_value byte h.0 in
    let first = digit_is_word_byte byte (omega arith, omega arith) in
    let others = digits_are_word_bytes digits h.1 in
    (rw (first.0, others.0) refl, rw (first.1, others.1) refl)

pub decimal_is_word : (number : ℕ) → number < 2 ^ 64 → IsWord (decimal number)
decimal_is_word number small =
    let numeral = decimal_is_IsNumeral number small in
    record { nonempty = numeral.0.0; in_word = (digits_are_word_bytes (decimal number) numeral.0.1).0 }

pub decimal_prints : (number : ℕ) → number < 2 ^ 64 → Prints (decimal number)
decimal_prints number small = word_prints (decimal number) (decimal_is_word number small)

pub number_of_decimal : (number : ℕ) → number < 2 ^ 62 → number_of (decimal number) ≡ Some number
number_of_decimal number small =
    let numeral = decimal_is_IsNumeral number (omega arith) in
    let digits = (digits_are_word_bytes (decimal number) numeral.0.1).1 in
    let below : nat_lt number (2 ^ 62) ≡ true = grind arith in
    rw (digits, numeral.1, below) refl

pub bound_of_decimal : (number : ℕ) → number ≤ 1000000 → bound_of (decimal number) ≡ Some number
bound_of_decimal number small =
    let numeral = decimal_is_IsNumeral number (omega arith) in
    let digits = (digits_are_word_bytes (decimal number) numeral.0.1).1 in
    let below : nat_le number 1000000 ≡ true = grind arith in
    rw (digits, numeral.1, below) refl

pub signed_prints : (number : ℤ) → is_in_range number ≡ true → Prints (signed_decimal number)
signed_prints (pos n) h = let below : n < 2 ^ 62 = grind (arith, h) in decimal_prints n (omega arith)
signed_prints (negsuc n) h = let below : suc n < 2 ^ 62 = grind (arith, h) in prints-cons 45 refl (decimal_prints (suc n) (omega arith))

-- ---- variables

-- the variable of this number
abbrev pub variable_word : ℕ → List ℕ
variable_word number = 120 ∷ decimal number

pub variable_is_word : (number : ℕ) → number < 2 ^ 64 → IsWord (variable_word number)
variable_is_word number small = record { nonempty = omega arith; in_word = (decimal_is_word number small).in_word }

pub variable_is_name : (number : ℕ) → number < 2 ^ 64 → is_name (variable_word number) ≡ true
variable_is_name number small =
    let short : length (decimal number) ≤ 31 = omega (arith, length-decimal-le 20 number (lit< tt) (omega arith) small) in
    let short_test : nat_le (length (decimal number)) 31 ≡ true = grind (arith, short) in
    rw ((decimal_is_word number small).in_word, short_test) refl

-- two variables of different numbers differ
pub other_variable : (number other : ℕ) → number < 2 ^ 64 → other < 2 ^ 64 → number ≢ other → pointwise nat_eq (variable_word number) (variable_word other) ≡ false
other_variable number other small small' differ = step (pointwise nat_eq (decimal number) (decimal other)) refl
  where
    step : (b : Bool) → pointwise nat_eq (decimal number) (decimal other) ≡ b → pointwise nat_eq (decimal number) (decimal other) ≡ false
    step true same = absurd (differ (decimal_injective number other small small' (same_text (decimal number) (decimal other) (sym same))))
    step false h = h
