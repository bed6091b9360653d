-- The parts of a term, token by token.
use Rattle.std.proofs.Common.{◌≡◌, Bool, true, false, None, List, [], ◌∷◌, ℕ, refl}
use Rattle.std.specs.Borrow.{Bor}
use Rattle.job_texts.specs.LineTokens.{Token, Word, Plus, Minus, Times}
use Rattle.job_texts.specs.TermText.{begins_number, plain_number, plain_variable, multiple, with_part}
use Rattle.job_texts.specs.TermParts.{parts_from, further_parts}
use Rattle.algebra_terms.specs.declared.symbols.Symbol.{Symbol}
use Rattle.algebra_terms.specs.declared.symbols.Symbol.TheVariants as symbols
use Rattle.algebra_terms.specs.Tokens.{symbol_of}
use Rattle.algebra_terms.specs.Reading.{begins_times}

-- a variable alone
pub at_variable : (negative : Bool) (word : List ℕ) (tokens : List Token) → begins_number word ≡ false
    → parts_from negative (Word word ∷ tokens) ≡ with_part (plain_variable negative word) (further_parts tokens)
at_variable negative word [] h = rw h refl
at_variable negative word (Plus ∷ tokens) h = rw h refl
at_variable negative word (Minus ∷ tokens) h = rw h refl
at_variable negative word (Times ∷ Word variable ∷ tokens) h = rw h refl
at_variable negative word (Times ∷ tokens) h = refl
at_variable negative word (other ∷ tokens) h = refl

-- a number alone
pub at_number : (negative : Bool) (word : List ℕ) (tokens : List Token) → begins_number word ≡ true → begins_times tokens ≡ false
    → parts_from negative (Word word ∷ tokens) ≡ with_part (plain_number negative word) (further_parts tokens)
at_number negative word [] h no_times = rw h refl
at_number negative word (Plus ∷ tokens) h no_times = rw h refl
at_number negative word (Minus ∷ tokens) h no_times = rw h refl
at_number negative word (Times ∷ tokens) h no_times = cc
at_number negative word (other ∷ tokens) h no_times = refl

-- a number times a variable
pub at_multiple : (negative : Bool) (number variable : List ℕ) (tokens : List Token) → begins_number number ≡ true → begins_number variable ≡ false
    → parts_from negative (Word number ∷ Times ∷ Word variable ∷ tokens) ≡ with_part (multiple negative number variable) (further_parts tokens)
at_multiple negative number variable tokens h g = rw (h, g) refl

-- a number and `*` with no word behind them
pub times_no_more : (negative : Bool) (number : List ℕ) → parts_from negative (Word number ∷ Times ∷ []) ≡ None
times_no_more negative number = refl

pub times_no_word : (negative : Bool) (number : List ℕ) (found : Symbol) (others : List Token)
    → ((word : Bor (List ℕ)) → found ≡ symbols.Word word → ⊥) → parts_from negative (Word number ∷ Times ∷ symbol_of found ∷ others) ≡ None
times_no_word negative number (symbols.Word word) others no_word = absurd (no_word word refl)
times_no_word negative number other others no_word = refl
