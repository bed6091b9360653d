-- The term that a canonical spelling's parts make.
use Rattle.std.proofs.Common.{codes, ◌≡◌, ◌≢◌, ℕ, zero, suc, ◌+◌, ◌^◌, ◌<◌, ◌≤◌, ℤ, pos, negsuc, Bool, true, false, ◌&&◌, nat_eq, nat_le, Some, None, Ok, List, [], ◌∷◌, ◌++◌, length, refl, sym, ◌∙◌, ap, arith, lit<, IsTrue}
use Rattle.std.specs.List.{list_all}
use Rattle.std.specs.Fmt.{decimal}
use Rattle.std.specs.Cmp.Lexicographic.{same_text}
use Rattle.std.proofs.lemmas.Fmt.{decimal_injective, length-decimal-le}
use Rattle.std.proofs.Math.IntN.{+ℤ_idr, +ℤ_idl}
use lib.Pointwise.{pointwise}
use Rattle.adp_model.specs.declared.grammar.Kind.{Kind}
use Rattle.adp_model.specs.declared.grammar.Sign.{Sign}
use Rattle.adp_model.specs.declared.grammar.Linear.{Linear}
use Rattle.adp_model.specs.WellFormed.{is_word_byte, is_name, is_in_range, is_sign, is_linear}
use Rattle.job_texts.specs.Spelling.{variables, linear_text}
use Rattle.job_texts.specs.LineTokens.{Token, Word, before_tokens, begins_word, is_one_of, mark_of, tokens_of}
use Rattle.job_texts.specs.TermText.{Part, total, are_names, are_numbers, totals_fit, is_among, are_declared, factor_after, factors_after}
use Rattle.job_texts.specs.TermParts.{term_reading}
use Rattle.algebra_terms.proofs.Spelled.{variable_word, factor_parts, constant_part, decimal_is_word, parts_of_term}
use Rattle.algebra_terms.proofs.Ranges.{both}
use Rattle.algebra_terms.proofs.Readings.{made}

list_refl : (text : List ℕ) → pointwise nat_eq text text ≡ true
list_refl [] = refl
list_refl (byte ∷ text) = let same : nat_eq byte byte ≡ true = grind arith in rw (same, list_refl text) refl

-- two variables of different numbers differ
pub other_variable : (number other : ℕ) → number < 2 ^ 64 → other < 2 ^ 64 → number ≢ other → pointwise nat_eq (variable_word number) (variable_word other) ≡ false
other_variable number other small small' differ = step (pointwise nat_eq (decimal number) (decimal other)) refl
  where
    step : (b : Bool) → pointwise nat_eq (decimal number) (decimal other) ≡ b → pointwise nat_eq (decimal number) (decimal other) ≡ false
    step true same = absurd (differ (decimal_injective number other small small' (same_text (decimal number) (decimal other) (sym same))))
    step false h = h

pub variable_is_name : (number : ℕ) → number < 2 ^ 64 → is_name (variable_word number) ≡ true
variable_is_name number small =
    let short : length (decimal number) ≤ 31 = omega (arith, length-decimal-le 20 number (lit< tt) (omega arith) small) in
    let short_test : nat_le (length (decimal number)) 31 ≡ true = grind (arith, short) in
    rw ((decimal_is_word number small).in_word, short_test) refl

-- every variable is a name
pub spelled_names : (number : ℕ) (factors : List ℤ) → number + length factors < 2 ^ 64 → are_names (factor_parts number factors) ≡ true
spelled_names number [] small = refl
spelled_names number (pos zero ∷ factors) small = spelled_names (number + 1) factors (omega arith)
spelled_names number (pos (suc n) ∷ factors) small = rw (variable_is_name number (omega arith)) (spelled_names (number + 1) factors (omega arith))
spelled_names number (negsuc n ∷ factors) small = rw (variable_is_name number (omega arith)) (spelled_names (number + 1) factors (omega arith))

pub spelled_numbers : (number : ℕ) (factors : List ℤ) → are_numbers (factor_parts number factors) ≡ true
spelled_numbers number [] = refl
spelled_numbers number (pos zero ∷ factors) = spelled_numbers (number + 1) factors
spelled_numbers number (pos (suc n) ∷ factors) = spelled_numbers (number + 1) factors
spelled_numbers number (negsuc n ∷ factors) = spelled_numbers (number + 1) factors

-- the factors from a number on add nothing to a variable of a lesser number
adds_none_before : (number variable : ℕ) (factors : List ℤ) → variable < number → number + length factors < 2 ^ 64
    → total (Some (variable_word variable)) (factor_parts number factors) ≡ pos 0
adds_none_before number variable [] before small = refl
adds_none_before number variable (pos zero ∷ factors) before small = adds_none_before (number + 1) variable factors (omega arith) (omega arith)
adds_none_before number variable (pos (suc n) ∷ factors) before small =
    rw (other_variable number variable (omega arith) (omega arith) (λ same. omega (arith, same)), adds_none_before (number + 1) variable factors (omega arith) (omega arith)) refl
adds_none_before number variable (negsuc n ∷ factors) before small =
    rw (other_variable number variable (omega arith) (omega arith) (λ same. omega (arith, same)), adds_none_before (number + 1) variable factors (omega arith) (omega arith)) refl

-- the first of them is its variable's
adds_first : (number : ℕ) (factor : ℤ) (factors : List ℤ) → number + length (factor ∷ factors) < 2 ^ 64
    → total (Some (variable_word number)) (factor_parts number (factor ∷ factors)) ≡ factor
adds_first number (pos zero) factors small = adds_none_before (number + 1) number factors (omega arith) (omega arith)
adds_first number (pos (suc n)) factors small =
    rw (list_refl (decimal number), adds_none_before (number + 1) number factors (omega arith) (omega arith)) (+ℤ_idr (pos (suc n)))
adds_first number (negsuc n) factors small =
    rw (list_refl (decimal number), adds_none_before (number + 1) number factors (omega arith) (omega arith)) (+ℤ_idr (negsuc n))

-- and adds nothing to another
adds_others : (number variable : ℕ) (factor : ℤ) (factors : List ℤ) → number < variable → variable < 2 ^ 64 → number + length (factor ∷ factors) < 2 ^ 64
    → total (Some (variable_word variable)) (factor_parts number (factor ∷ factors)) ≡ total (Some (variable_word variable)) (factor_parts (number + 1) factors)
adds_others number variable (pos zero) factors after in_range small = refl
adds_others number variable (pos (suc n)) factors after in_range small =
    rw (other_variable number variable (omega arith) in_range (λ same. omega (arith, same))) (+ℤ_idl (total (Some (variable_word variable)) (factor_parts (number + 1) factors)))
adds_others number variable (negsuc n) factors after in_range small =
    rw (other_variable number variable (omega arith) in_range (λ same. omega (arith, same))) (+ℤ_idl (total (Some (variable_word variable)) (factor_parts (number + 1) factors)))

adds_no_constant : (number : ℕ) (factors : List ℤ) → total None (factor_parts number factors) ≡ pos 0
adds_no_constant number [] = refl
adds_no_constant number (pos zero ∷ factors) = adds_no_constant (number + 1) factors
adds_no_constant number (pos (suc n) ∷ factors) = rw (adds_no_constant (number + 1) factors) refl
adds_no_constant number (negsuc n ∷ factors) = rw (adds_no_constant (number + 1) factors) refl

-- from a number on these parts add up as the factors' do
abbrev AddUpFrom : ℕ → List ℤ → List Part → Type 0
AddUpFrom number factors parts =
    (variable : ℕ) → number ≤ variable → variable < 2 ^ 64 → total (Some (variable_word variable)) parts ≡ total (Some (variable_word variable)) (factor_parts number factors)

add_up_others : (number : ℕ) (factor : ℤ) (factors : List ℤ) (parts : List Part) → number + length (factor ∷ factors) < 2 ^ 64
    → AddUpFrom number (factor ∷ factors) parts → AddUpFrom (number + 1) factors parts
add_up_others number factor factors parts small add_up variable after in_range =
    add_up variable (omega arith) in_range ∙ adds_others number variable factor factors (omega arith) in_range small

-- the constant and each of the factors is in range
all_fit : (number : ℕ) (factors : List ℤ) (parts : List Part) → list_all is_in_range factors ≡ true → number + length factors < 2 ^ 64 → AddUpFrom number factors parts
    → list_all (λ (part : Part). is_in_range (total part.variable parts)) (factor_parts number factors) ≡ true
all_fit number [] parts fits small add_up = refl
all_fit number (pos zero ∷ factors) parts fits small add_up =
    all_fit (number + 1) factors parts fits (omega arith) (add_up_others number (pos zero) factors parts small add_up)
all_fit number (pos (suc n) ∷ factors) parts fits small add_up =
    let range = both (is_in_range (pos (suc n))) (list_all is_in_range factors) fits in
    let first = add_up number (omega arith) (omega arith) ∙ adds_first number (pos (suc n)) factors small in
    rw (first, range.0) (all_fit (number + 1) factors parts range.1 (omega arith) (add_up_others number (pos (suc n)) factors parts small add_up))
all_fit number (negsuc n ∷ factors) parts fits small add_up =
    let range = both (is_in_range (negsuc n)) (list_all is_in_range factors) fits in
    let first = add_up number (omega arith) (omega arith) ∙ adds_first number (negsuc n) factors small in
    rw (first, range.0) (all_fit (number + 1) factors parts range.1 (omega arith) (add_up_others number (negsuc n) factors parts small add_up))

-- the variables of the factors are declared
among_others : (first text : List ℕ) (texts : List (List ℕ)) → is_among texts text ≡ true → is_among (first ∷ texts) text ≡ true
among_others first text texts h = step (pointwise nat_eq first text) refl
  where
    step : (b : Bool) → pointwise nat_eq first text ≡ b → is_among (first ∷ texts) text ≡ true
    step true e = rw e refl
    step false e = rw (e, h) refl

pub among_variables : (number : ℕ) (kinds : List Kind) (variable : ℕ) → number ≤ variable → variable < number + length kinds → is_among (variables number kinds) (variable_word variable) ≡ true
among_variables number [] variable from to = absurd (omega arith)
among_variables number (kind ∷ kinds) variable from to =
    step (nat_eq number variable) refl (λ after. among_variables (number + 1) kinds variable after (omega arith))
  where
    step : (b : Bool) → nat_eq number variable ≡ b → (number + 1 ≤ variable → is_among (variables (number + 1) kinds) (variable_word variable) ≡ true)
        → is_among (variables number (kind ∷ kinds)) (variable_word variable) ≡ true
    step true e others =
        let same : number ≡ variable = grind (arith, e) in
        let first : pointwise nat_eq (variable_word number) (variable_word variable) ≡ true = rw same (list_refl (variable_word variable)) in
        rw first refl
    step false e others =
        let after : number + 1 ≤ variable = grind (arith, e) in
        among_others (variable_word number) (variable_word variable) (variables (number + 1) kinds) (others after)

all_declared : (number : ℕ) (factors : List ℤ) (declared : List (List ℕ))
    → ((variable : ℕ) → number ≤ variable → variable < number + length factors → is_among declared (variable_word variable) ≡ true)
    → are_declared declared (factor_parts number factors) ≡ true
all_declared number [] declared h = refl
all_declared number (pos zero ∷ factors) declared h = all_declared (number + 1) factors declared (λ variable from to. h variable (omega arith) (omega arith))
all_declared number (pos (suc n) ∷ factors) declared h =
    rw (h number (omega arith) (omega arith)) (all_declared (number + 1) factors declared (λ variable from to. h variable (omega arith) (omega arith)))
all_declared number (negsuc n ∷ factors) declared h =
    rw (h number (omega arith) (omega arith)) (all_declared (number + 1) factors declared (λ variable from to. h variable (omega arith) (omega arith)))

among_none_more : (texts : List (List ℕ)) (last text : List ℕ) → is_among texts text ≡ false → pointwise nat_eq last text ≡ false → is_among (texts ++ last ∷ []) text ≡ false
among_none_more [] last text none other = rw other refl
among_none_more (first ∷ texts) last text none other = step (pointwise nat_eq first text) refl none (λ h. among_none_more texts last text h other)
  where
    step : (b : Bool) → pointwise nat_eq first text ≡ b → is_among (first ∷ texts) text ≡ false → (is_among texts text ≡ false → is_among (texts ++ last ∷ []) text ≡ false)
        → is_among ((first ∷ texts) ++ last ∷ []) text ≡ false
    step true e h others = let absurd_test : true ≡ false = rw e at h in cc
    step false e h others = rw e (others (rw e at h))

-- so each variable has its factor
factors_are : (number : ℕ) (factors : List ℤ) (kinds : List Kind) (earlier : List (List ℕ)) (parts : List Part) → length kinds ≡ length factors → number + length factors < 2 ^ 64
    → AddUpFrom number factors parts → ((variable : ℕ) → number ≤ variable → variable < 2 ^ 64 → is_among earlier (variable_word variable) ≡ false)
    → factors_after earlier (variables number kinds) parts ≡ factors
factors_are number [] [] earlier parts same small add_up new = refl
factors_are number [] (kind ∷ kinds) earlier parts same small add_up new = absurd (omega (arith, same))
factors_are number (factor ∷ factors) [] earlier parts same small add_up new = absurd (omega (arith, same))
factors_are number (factor ∷ factors) (kind ∷ kinds) earlier parts same small add_up new =
    let first : factor_after earlier (variable_word number) parts ≡ factor =
    rw (new number (omega arith) (omega arith)) (add_up number (omega arith) (omega arith) ∙ adds_first number factor factors small) in
    let others = factors_are (number + 1) factors kinds (earlier ++ variable_word number ∷ []) parts (omega (arith, same)) (omega arith)
    (add_up_others number factor factors parts small add_up)
    (λ variable from to. among_none_more earlier (variable_word number) (variable_word variable) (new variable (omega arith) to)
    (other_variable number variable (omega arith) to (λ e. omega (arith, e)))) in
    ap (λ (first : ℤ). first ∷ factors_after (earlier ++ variable_word number ∷ []) (variables (number + 1) kinds) parts) first ∙ ap (λ (others : List ℤ). factor ∷ others) others

-- words, marks and spaces before a text
module _
    (words : (first : ℕ) (others text : List ℕ) → list_all is_word_byte (first ∷ others) ≡ true → begins_word text ≡ false
    → tokens_of ((first ∷ others) ++ text) ≡ before_tokens (Word (first ∷ others)) (tokens_of text))
    (marks : (byte : ℕ) (mark : Token) (text : List ℕ) → mark_of byte ≡ Some mark → tokens_of (byte ∷ text) ≡ before_tokens mark (tokens_of text))
    (spaces : (byte : ℕ) (text : List ℕ) → is_one_of (codes " ") byte ≡ true → tokens_of (byte ∷ text) ≡ tokens_of text)
  where
    -- a term is read from its spelling
    pub term_is_read : (term : Linear) (kinds : List Kind) → is_in_range term.constant ≡ true → list_all is_in_range term.factors ≡ true → length kinds ≡ length term.factors → length kinds < 2 ^ 62
        → term_reading (linear_text term) (variables 1 kinds) ≡ Ok term
    term_is_read term kinds fits factors_fit same few =
        let parts : List Part = constant_part term.constant ∷ factor_parts 1 term.factors in
        let add_up : AddUpFrom 1 term.factors parts = λ variable from to. +ℤ_idl (total (Some (variable_word variable)) (factor_parts 1 term.factors)) in
        let constant_is : total None parts ≡ term.constant = rw (adds_no_constant 1 term.factors) (+ℤ_idr term.constant) in
        let names : are_names parts ≡ true = spelled_names 1 term.factors (omega (arith, same)) in
        let numbers : are_numbers parts ≡ true = spelled_numbers 1 term.factors in
        let fit : totals_fit parts ≡ true = rw (constant_is, fits) (all_fit 1 term.factors parts factors_fit (omega (arith, same)) add_up) in
        let declared : are_declared (variables 1 kinds) parts ≡ true =
        all_declared 1 term.factors (variables 1 kinds) (λ variable from to. among_variables 1 kinds variable from (omega (arith, same))) in
        let factors : factors_after [] (variables 1 kinds) parts ≡ term.factors = factors_are 1 term.factors kinds [] parts same (omega (arith, same)) add_up (λ variable from to. refl) in
        rw (parts_of_term words marks spaces term fits factors_fit (omega (arith, same)))
        (made parts (variables 1 kinds) term names numbers fit declared constant_is factors)

    pub sign_term_is_read : (sign : Sign) (term : Linear) → IsTrue (is_sign sign) → IsTrue (is_linear (length sign.kinds) term) → term_reading (linear_text term) (variables 1 sign.kinds) ≡ Ok term
    sign_term_is_read given term sign_fits term_fits =
        let kinds = given.kinds in
        let sign = both (is_name given.name && nat_le 1 (length kinds)) (nat_le (length kinds) 4) sign_fits in
        let parts = both (is_in_range term.constant && list_all is_in_range term.factors) (nat_eq (length term.factors) (length kinds)) term_fits in
        let numbers = both (is_in_range term.constant) (list_all is_in_range term.factors) parts.0 in
        let same : length kinds ≡ length term.factors = grind (arith, parts.1) in
        let few : length kinds ≤ 4 = grind (arith, sign.1) in
        term_is_read term kinds numbers.0 numbers.1 same (omega arith)
