-- Digits, one after another.
use Rattle.std.proofs.Common.{◌≡◌, ℕ, zero, suc, ◌+◌, ◌-◌, ◌*◌, ◌<◌, ◌≤◌, ◌&&◌, Bool, true, false, List, [], ◌∷◌, length, get_or, take, sym, ap, ◌∙◌, arith}
use Rattle.std.specs.Char.{digit_value, is_ascii_digit}
use Rattle.std.specs.Str.{all_ascii_digits}
use Rattle.std.specs.Str.Parse.{digits_value}
use Rattle.std.proofs.lemmas.Bool.Decides.{nat_tests}
use Rattle.std.proofs.lemmas.Int.Digits.{digits_value_more}
use Rattle.table_certificate.specs.KeptForms.{greatest_kept, kept}
use Rattle.table_certificate.proofs.KeptNumbers.{kept_step}

both : (a b : Bool) → (a && b) ≡ true → (a ≡ true) × (b ≡ true)
both true b e = (e', e)
  where
    e' : true ≡ true
    e' = λ i. true
both false b e = cc

digit_range : (c : ℕ) → is_ascii_digit c ≡ true → (48 ≤ c) × (c ≤ 57)
digit_range c e = grind (arith, nat_tests)

-- each byte of digits is a digit
pub digit_here : (word : List ℕ) (i : ℕ) → all_ascii_digits word ≡ true → i < length word
    → (48 ≤ get_or word i 0) × (get_or word i 0 ≤ 57)
digit_here [] i all low = absurd (omega (arith, low))
digit_here (c ∷ cs) zero all low = digit_range c (both (is_ascii_digit c) (all_ascii_digits cs) all).0
digit_here (c ∷ cs) (suc i) all low = digit_here cs i (both (is_ascii_digit c) (all_ascii_digits cs) all).1 (omega (arith, low))

digit_value_is : (c : ℕ) → 48 ≤ c → c ≤ 57 → digit_value c ≡ c - 48
digit_value_is c low high = grind (arith, nat_tests)

pub one_digit_more : (digits : List ℕ) (i v : ℕ) → i < length digits → 48 ≤ get_or digits i 0 → get_or digits i 0 ≤ 57
    → v ≡ kept (digits_value 10 (take i digits))
    → kept (v * 10 + (get_or digits i 0 - 48)) ≡ kept (digits_value 10 (take (i + 1) digits))
one_digit_more digits i v low least most e =
    kept_step (digits_value 10 (take i digits)) (get_or digits i 0 - 48) v e
    ∙ ap (λ d. kept (digits_value 10 (take i digits) * 10 + d)) (sym (digit_value_is (get_or digits i 0) least most))
    ∙ ap kept (sym (digits_value_more 10 digits i low))

pub kept_most : (n : ℕ) → kept n ≤ greatest_kept
kept_most n = grind (arith, nat_tests)
