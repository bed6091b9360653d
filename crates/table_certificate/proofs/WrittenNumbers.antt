-- Numbers and scores, read as they were written.
use Rattle.std.proofs.Common.{◌≡◌, ℕ, zero, suc, ◌^◌, ◌<◌, ◌≤◌, ◌==◌, ◌&&◌, ℤ, pos, negsuc, nat_abs, Bool, true, false, Option, Some, None, IfSome, List, [], ◌∷◌, codes, get_or, refl, ap, ◌∙◌, arith}
use Rattle.std.specs.Char.{is_ascii_digit}
use Rattle.std.specs.Fmt.{decimal, signed_decimal}
use Rattle.std.specs.Option.{option_map}
use Rattle.std.specs.Prelude.{nat_le}
use Rattle.std.specs.Str.{all_ascii_digits}
use Rattle.std.specs.Str.Parse.{AllDigits}
use Rattle.std.proofs.lemmas.Bool.Decides.{nat_tests}
use Rattle.std.proofs.lemmas.Fmt.{decimal_digit, decimal_is_IsNumeral, first_decimal}
use Rattle.std.proofs.lemmas.List.Elements.{All-cons, All-from_recursion, All-nil}
use Rattle.std.proofs.lemmas.Str.Parse.{digit_from_value}
use Rattle.adp_model.specs.ProblemFields.{greatest_score}
use Rattle.table_certificate.specs.CertificateLines.{is_canonical, is_text, minus, natural_of, positive_score, said_score, score_of}
use Rattle.table_certificate.specs.WrittenCertificate.{score_text}
use Rattle.table_certificate.proofs.PlainLines.{IsWord}

-- ---- digits

-- digits, one at least, the first not 0 where there are more
record AreWritten (digits : List ℕ) : Type 0 where
  all : all_ascii_digits digits ≡ true
  word : IsWord digits

digit_is : (byte : ℕ) → (48 ≤ byte) × (byte ≤ 57) → is_ascii_digit byte ≡ true
digit_is byte h = grind (arith, h)

written_digits : (digits : List ℕ) → AllDigits 10 digits → AreWritten digits
written_digits [] h = record { all = refl; word = All-nil (λ byte. 32 < byte) }
written_digits (byte ∷ digits) h =
    let range = digit_from_value byte h.0 in
    let behind = written_digits digits h.1 in
    record {
      all = rw (digit_is byte (omega arith, omega arith), behind.all) refl;
      word = All-cons (λ byte. 32 < byte) byte digits (omega arith) behind.word;
    }

written : (number : ℕ) → number < 2 ^ 64 → AreWritten (decimal number)
written number small = written_digits (decimal number) (decimal_is_IsNumeral number small).0.1

pub decimal_word : (number : ℕ) → number < 2 ^ 64 → IsWord (decimal number)
decimal_word number small = (written number small).word

digit_range : (byte : ℕ) (others : Bool) → (is_ascii_digit byte && others) ≡ true → (48 ≤ byte) × (byte ≤ 57)
digit_range byte others e = grind (arith, nat_tests)

-- ---- canonical spelling

canonical_first : (digits : List ℕ) → all_ascii_digits digits ≡ true → 48 < get_or digits 0 0
    → is_canonical digits ≡ true
canonical_first [] all first = absurd (omega arith)
canonical_first (digit ∷ []) all first =
    let range = digit_range digit true all in
    digit_is digit range
canonical_first (digit ∷ other ∷ digits) all first =
    let high : 48 < digit = first in
    let some : (digit == 48) ≡ false = grind (arith, nat_tests) in
    rw (all, some) refl

canonical : (number : ℕ) → number < 2 ^ 64 → is_canonical (decimal number) ≡ true
canonical zero small = rw (decimal_digit 0 (omega arith)) refl
canonical (suc number) small =
    canonical_first (decimal (suc number)) (written (suc number) small).all (first_decimal (suc number) (omega arith) small)

pub natural_written : (number : ℕ) → number < 2 ^ 64 → natural_of (decimal number) ≡ Some number
natural_written number small =
    rw (canonical number small) (ap (λ n. Some n) (decimal_is_IsNumeral number small).1)

-- ---- digits are no other word

other_word : (digits : List ℕ) (first : ℕ) (others : List ℕ) → all_ascii_digits digits ≡ true → 57 < first
    → is_text digits (first ∷ others) ≡ false
other_word [] first others all high = refl
other_word (digit ∷ digits) first others all high =
    let range = digit_range digit (all_ascii_digits digits) all in
    let unlike : (digit == first) ≡ false = grind (arith, nat_tests) in
    rw unlike refl

pub not_cells : (number : ℕ) → number < 2 ^ 64 → is_text (decimal number) (codes "cells") ≡ false
not_cells number small = other_word (decimal number) 99 (codes "ells") (written number small).all (omega arith)

-- ---- scores

score_of_digits : (digits : List ℕ) → all_ascii_digits digits ≡ true
    → score_of digits ≡ positive_score (natural_of digits)
score_of_digits [] all = refl
score_of_digits (digit ∷ digits) all =
    let range = digit_range digit (all_ascii_digits digits) all in
    let unsigned : (digit == minus) ≡ false = grind (arith, nat_tests) in
    rw unsigned refl

in_range : (number : ℕ) → number ≤ greatest_score → nat_le number greatest_score ≡ true
in_range number low = grind (arith, nat_tests)

score_written : (score : ℤ) → nat_abs score ≤ greatest_score → score_of (signed_decimal score) ≡ Some score
score_written (pos number) low =
    let below : number ≤ greatest_score = low in
    let small : number < 2 ^ 64 = omega arith in
    score_of_digits (decimal number) (written number small).all ∙ rw (natural_written number small, in_range number below) refl
score_written (negsuc number) low =
    let below : suc number ≤ greatest_score = low in
    let small : suc number < 2 ^ 64 = omega arith in
    rw (natural_written (suc number) small, in_range (suc number) below) refl

score_is_not_none : (score : ℤ) → nat_abs score ≤ greatest_score → is_text (signed_decimal score) (codes "none") ≡ false
score_is_not_none (pos number) low =
    let below : number ≤ greatest_score = low in
    other_word (decimal number) 110 (codes "one") (written number (omega arith)).all (omega arith)
score_is_not_none (negsuc number) low = refl

-- a score, or that there is none, in range
abbrev pub IsLowScore : Option ℤ → Type 0
IsLowScore score = IfSome score (λ s. nat_abs s ≤ greatest_score)

pub said_written : (score : Option ℤ) → IsLowScore score → said_score (score_text score) ≡ Some score
said_written None low = refl
said_written (Some score) low =
    rw (score_is_not_none score low) (ap (option_map (λ s. Some s)) (score_written score low))

pub score_word : (score : Option ℤ) → IsLowScore score → IsWord (score_text score)
score_word None low =
    All-from_recursion (λ byte. 32 < byte) (codes "none") (omega arith, (omega arith, (omega arith, (omega arith, tt))))
score_word (Some (pos number)) low = let below : number ≤ greatest_score = low in decimal_word number (omega arith)
score_word (Some (negsuc number)) low =
    let below : suc number ≤ greatest_score = low in
    All-cons (λ byte. 32 < byte) minus (decimal (suc number)) (omega arith) (decimal_word (suc number) (omega arith))
