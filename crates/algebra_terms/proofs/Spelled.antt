-- The tokens and the parts of a term's canonical spelling.
use Rattle.std.proofs.Common.{◌≡◌, ℕ, zero, suc, ◌+◌, ◌^◌, ◌<◌, ◌≤◌, ℤ, pos, negsuc, Bool, true, false, nat_lt, Some, None, Ok, List, [], ◌∷◌, ◌++◌, length, refl, ◌∙◌, ap, append_assoc, arith, codes}
use Rattle.std.specs.List.{list_all}
use Rattle.std.specs.Fmt.{decimal, signed_decimal}
use Rattle.std.specs.Char.{is_ascii_digit}
use Rattle.std.specs.Str.{all_ascii_digits}
use Rattle.std.specs.Str.Parse.{AllDigits}
use Rattle.std.proofs.lemmas.Fmt.{decimal_is_IsNumeral}
use Rattle.std.proofs.lemmas.Str.Parse.{digit_from_value}
use Rattle.adp_model.specs.WellFormed.{is_word_byte, is_in_range}
use Rattle.job_texts.specs.Spelling.{factors_text, linear_text}
use Rattle.adp_model.specs.declared.grammar.Linear.{Linear}
use Rattle.job_texts.specs.LineTokens.{Token, Word, Plus, Minus, Times, before_tokens, begins_word, is_one_of, mark_of, tokens_of}
use Rattle.job_texts.specs.TermText.{Part, begins_number, number_of, signed}
use Rattle.job_texts.specs.TermParts.{parts_from, further_parts, term_parts}
use Rattle.algebra_terms.specs.Reading.{begins_times}
use Rattle.algebra_terms.proofs.Parts.{at_number, at_multiple}
use Rattle.algebra_terms.proofs.Ranges.{both}

digit_is_word_byte : (byte : ℕ) → (48 ≤ byte) × (byte ≤ 57) → (is_word_byte byte ≡ true) × (is_ascii_digit byte ≡ true)
digit_is_word_byte byte h = (grind (arith, h), grind (arith, h))

digits_are_word_bytes : (digits : List ℕ) → AllDigits 10 digits → (list_all is_word_byte digits ≡ true) × (all_ascii_digits digits ≡ true)
digits_are_word_bytes [] h = (refl, refl)
digits_are_word_bytes (byte ∷ digits) h =
    let bounds = digit_from_value byte h.0 in
    let first = digit_is_word_byte byte (omega arith, omega arith) in
    let others = digits_are_word_bytes digits h.1 in
    (rw (first.0, others.0) refl, rw (first.1, others.1) refl)

begins_with_digit : (digits : List ℕ) → 0 < length digits → AllDigits 10 digits → begins_number digits ≡ true
begins_with_digit [] nonempty h = absurd (omega arith)
begins_with_digit (byte ∷ digits) nonempty h =
    let bounds = digit_from_value byte h.0 in
    (digit_is_word_byte byte (omega arith, omega arith)).1

-- what is known of a number's digits
pub record IsNumberWord (word : List ℕ) : Type 0 where
  pub nonempty : 0 < length word
  pub in_word : list_all is_word_byte word ≡ true
  pub begins : begins_number word ≡ true

pub decimal_is_word : (number : ℕ) → number < 2 ^ 64 → IsNumberWord (decimal number)
decimal_is_word number small =
    let numeral = decimal_is_IsNumeral number small in
    record {
      nonempty = numeral.0.0;
      in_word = (digits_are_word_bytes (decimal number) numeral.0.1).0;
      begins = begins_with_digit (decimal number) numeral.0.0 numeral.0.1;
    }

pub number_of_decimal : (number : ℕ) → number < 2 ^ 62 → number_of (decimal number) ≡ Some number
number_of_decimal number small =
    let numeral = decimal_is_IsNumeral number (omega arith) in
    let digits = (digits_are_word_bytes (decimal number) numeral.0.1).1 in
    let below : nat_lt number (2 ^ 62) ≡ true = grind arith in
    rw (digits, numeral.1, below) refl

-- the variable of this number
abbrev pub variable_word : ℕ → List ℕ
variable_word number = 120 ∷ decimal number

pub variable_is_word : (number : ℕ) → number < 2 ^ 64 → (list_all is_word_byte (variable_word number) ≡ true) × (begins_number (variable_word number) ≡ false)
variable_is_word number small = ((decimal_is_word number small).in_word, refl)

-- a factor's text is a space, its sign, a space, its number, `*` and its variable
ends_factors : (number : ℕ) (factors : List ℤ) → begins_word (factors_text number factors) ≡ false
ends_factors number [] = refl
ends_factors number (pos zero ∷ factors) = ends_factors (number + 1) factors
ends_factors number (pos (suc n) ∷ factors) = refl
ends_factors number (negsuc n ∷ factors) = refl

-- the tokens of the factors that are not 0
abbrev pub factor_tokens : ℕ → List ℤ → List Token
factor_tokens number [] = []
factor_tokens number (pos zero ∷ factors) = factor_tokens (number + 1) factors
factor_tokens number (pos (suc n) ∷ factors) =
    Plus ∷ Word (decimal (suc n)) ∷ Times ∷ Word (variable_word number) ∷ factor_tokens (number + 1) factors
factor_tokens number (negsuc n ∷ factors) =
    Minus ∷ Word (decimal (suc n)) ∷ Times ∷ Word (variable_word number) ∷ factor_tokens (number + 1) factors

-- the parts of the factors that are not 0
abbrev pub factor_parts : ℕ → List ℤ → List Part
factor_parts number [] = []
factor_parts number (pos zero ∷ factors) = factor_parts (number + 1) factors
factor_parts number (pos (suc n) ∷ factors) = record { variable = Some (variable_word number); amount = Some (pos (suc n)) } ∷ factor_parts (number + 1) factors
factor_parts number (negsuc n ∷ factors) = record { variable = Some (variable_word number); amount = Some (negsuc n) } ∷ factor_parts (number + 1) factors

multiple_parts : (negative : Bool) (factor number : ℕ) (tokens : List Token) (others : List Part) → factor < 2 ^ 62
    → further_parts tokens ≡ Some others
    → parts_from negative (Word (decimal factor) ∷ Times ∷ Word (variable_word number) ∷ tokens)
    ≡ Some (record { variable = Some (variable_word number); amount = signed negative (Some factor) } ∷ others)
multiple_parts negative factor number tokens others small given =
    at_multiple negative (decimal factor) (variable_word number) tokens (decimal_is_word factor (omega arith)).begins refl
    ∙ rw (number_of_decimal factor small, given) refl

pub parts_of_factors : (number : ℕ) (factors : List ℤ) → list_all is_in_range factors ≡ true
    → further_parts (factor_tokens number factors) ≡ Some (factor_parts number factors)
parts_of_factors number [] fits = refl
parts_of_factors number (pos zero ∷ factors) fits = parts_of_factors (number + 1) factors fits
parts_of_factors number (pos (suc n) ∷ factors) fits =
    let range = both (is_in_range (pos (suc n))) (list_all is_in_range factors) fits in
    let below : suc n < 2 ^ 62 = grind (arith, range.0) in
    multiple_parts false (suc n) number (factor_tokens (number + 1) factors) (factor_parts (number + 1) factors) below (parts_of_factors (number + 1) factors range.1)
parts_of_factors number (negsuc n ∷ factors) fits =
    let range = both (is_in_range (negsuc n)) (list_all is_in_range factors) fits in
    let below : suc n < 2 ^ 62 = grind (arith, range.0) in
    multiple_parts true (suc n) number (factor_tokens (number + 1) factors) (factor_parts (number + 1) factors) below (parts_of_factors (number + 1) factors range.1)

-- the part of the constant
abbrev pub constant_part : ℤ → Part
constant_part constant = record { variable = None; amount = Some constant }

no_times : (number : ℕ) (factors : List ℤ) → begins_times (factor_tokens number factors) ≡ false
no_times number [] = refl
no_times number (pos zero ∷ factors) = no_times (number + 1) factors
no_times number (pos (suc n) ∷ factors) = refl
no_times number (negsuc n ∷ factors) = refl

plain_parts : (negative : Bool) (number : ℕ) (tokens : List Token) (others : List Part) → number < 2 ^ 62 → begins_times tokens ≡ false
    → further_parts tokens ≡ Some others
    → parts_from negative (Word (decimal number) ∷ tokens) ≡ Some (record { variable = None; amount = signed negative (Some number) } ∷ others)
plain_parts negative number tokens others small none given =
    at_number negative (decimal number) tokens (decimal_is_word number (omega arith)).begins none ∙ rw (number_of_decimal number small, given) refl

-- words, marks and spaces before a text
module _
    (words : (first : ℕ) (others text : List ℕ) → list_all is_word_byte (first ∷ others) ≡ true → begins_word text ≡ false
    → tokens_of ((first ∷ others) ++ text) ≡ before_tokens (Word (first ∷ others)) (tokens_of text))
    (marks : (byte : ℕ) (mark : Token) (text : List ℕ) → mark_of byte ≡ Some mark → tokens_of (byte ∷ text) ≡ before_tokens mark (tokens_of text))
    (spaces : (byte : ℕ) (text : List ℕ) → is_one_of (codes " ") byte ≡ true → tokens_of (byte ∷ text) ≡ tokens_of text)
  where
    pub word_then : (word rest : List ℕ) → 0 < length word → list_all is_word_byte word ≡ true → begins_word rest ≡ false
        → tokens_of (word ++ rest) ≡ before_tokens (Word word) (tokens_of rest)
    word_then [] rest nonempty all ends = absurd (omega arith)
    word_then (first ∷ others) rest nonempty all ends = words first others rest all ends

    -- a number, `*`, a variable and what follows
    multiple_tokens : (factor number : ℕ) (rest : List ℕ) → factor < 2 ^ 62 → number < 2 ^ 64 → begins_word rest ≡ false
        → tokens_of (((decimal factor ++ codes "*x") ++ decimal number) ++ rest)
        ≡ before_tokens (Word (decimal factor)) (before_tokens Times (before_tokens (Word (variable_word number)) (tokens_of rest)))
    multiple_tokens factor number rest small_factor small_number ends =
        let factor_word = decimal_is_word factor (omega arith) in
        let variable = variable_is_word number small_number in
        let regrouped : ((decimal factor ++ codes "*x") ++ decimal number) ++ rest ≡ decimal factor ++ (42 ∷ (variable_word number ++ rest)) = simp append_assoc in
        rw regrouped
        (word_then (decimal factor) (42 ∷ (variable_word number ++ rest)) factor_word.nonempty factor_word.in_word refl
        ∙ ap (before_tokens (Word (decimal factor)))
        (marks 42 Times (variable_word number ++ rest) refl
        ∙ ap (before_tokens Times) (word_then (variable_word number) rest (omega arith) variable.0 ends)))

    -- a sign between spaces, and a multiple behind it
    signed_multiple_tokens : (sign factor number : ℕ) (token : Token) (rest : List ℕ) (others : List Token) → mark_of sign ≡ Some token
        → factor < 2 ^ 62 → number < 2 ^ 64 → begins_word rest ≡ false
        → tokens_of rest ≡ Ok others
        → tokens_of (32 ∷ sign ∷ 32 ∷ (((decimal factor ++ codes "*x") ++ decimal number) ++ rest))
        ≡ Ok (token ∷ Word (decimal factor) ∷ Times ∷ Word (variable_word number) ∷ others)
    signed_multiple_tokens sign factor number token rest others is small_factor small_number ends given =
        let text : List ℕ = ((decimal factor ++ codes "*x") ++ decimal number) ++ rest in
        let behind : tokens_of (32 ∷ text) ≡ Ok (Word (decimal factor) ∷ Times ∷ Word (variable_word number) ∷ others) =
        spaces 32 text refl ∙ multiple_tokens factor number rest small_factor small_number ends ∙ rw given refl in
        spaces 32 (sign ∷ 32 ∷ text) refl ∙ marks sign token (32 ∷ text) is ∙ ap (before_tokens token) behind

    pub tokens_of_factors : (number : ℕ) (factors : List ℤ) → list_all is_in_range factors ≡ true → number + length factors < 2 ^ 64
        → tokens_of (factors_text number factors) ≡ Ok (factor_tokens number factors)
    tokens_of_factors number [] fits small = refl
    tokens_of_factors number (pos zero ∷ factors) fits small = tokens_of_factors (number + 1) factors fits (omega arith)
    tokens_of_factors number (pos (suc n) ∷ factors) fits small =
        let range = both (is_in_range (pos (suc n))) (list_all is_in_range factors) fits in
        let below : suc n < 2 ^ 62 = grind (arith, range.0) in
        signed_multiple_tokens 43 (suc n) number Plus (factors_text (number + 1) factors) (factor_tokens (number + 1) factors) refl below (omega arith)
        (ends_factors (number + 1) factors) (tokens_of_factors (number + 1) factors range.1 (omega arith))
    tokens_of_factors number (negsuc n ∷ factors) fits small =
        let range = both (is_in_range (negsuc n)) (list_all is_in_range factors) fits in
        let below : suc n < 2 ^ 62 = grind (arith, range.0) in
        signed_multiple_tokens 45 (suc n) number Minus (factors_text (number + 1) factors) (factor_tokens (number + 1) factors) refl below (omega arith)
        (ends_factors (number + 1) factors) (tokens_of_factors (number + 1) factors range.1 (omega arith))

    pub parts_of_term : (term : Linear) → is_in_range term.constant ≡ true → list_all is_in_range term.factors ≡ true → length term.factors < 2 ^ 62
        → term_parts (linear_text term) ≡ Some (constant_part term.constant ∷ factor_parts 1 term.factors)
    parts_of_term term fits factors_fit few = step term.constant refl fits
      where
        step : (constant : ℤ) → term.constant ≡ constant → is_in_range constant ≡ true
            → term_parts (signed_decimal constant ++ factors_text 1 term.factors) ≡ Some (constant_part constant ∷ factor_parts 1 term.factors)
        step (pos n) is range =
            let below : n < 2 ^ 62 = grind (arith, range) in
            let word = decimal_is_word n (omega arith) in
            let found : tokens_of (decimal n ++ factors_text 1 term.factors) ≡ Ok (Word (decimal n) ∷ factor_tokens 1 term.factors) =
            word_then (decimal n) (factors_text 1 term.factors) word.nonempty word.in_word (ends_factors 1 term.factors)
            ∙ rw (tokens_of_factors 1 term.factors factors_fit (omega arith)) refl in
            rw found (plain_parts false n (factor_tokens 1 term.factors) (factor_parts 1 term.factors) below (no_times 1 term.factors) (parts_of_factors 1 term.factors factors_fit))
        step (negsuc n) is range =
            let below : suc n < 2 ^ 62 = grind (arith, range) in
            let word = decimal_is_word (suc n) (omega arith) in
            let found : tokens_of (45 ∷ (decimal (suc n) ++ factors_text 1 term.factors)) ≡ Ok (Minus ∷ Word (decimal (suc n)) ∷ factor_tokens 1 term.factors) =
            marks 45 Minus (decimal (suc n) ++ factors_text 1 term.factors) refl
            ∙ ap (before_tokens Minus) {y = Ok (Word (decimal (suc n)) ∷ factor_tokens 1 term.factors)}
            (word_then (decimal (suc n)) (factors_text 1 term.factors) word.nonempty word.in_word (ends_factors 1 term.factors)
            ∙ rw (tokens_of_factors 1 term.factors factors_fit (omega arith)) refl) in
            rw found (plain_parts true (suc n) (factor_tokens 1 term.factors) (factor_parts 1 term.factors) below (no_times 1 term.factors) (parts_of_factors 1 term.factors factors_fit))
