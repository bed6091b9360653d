-- The letters of words that are made.
use Rattle.std.proofs.Common.{◌≡◌, ℕ, zero, suc, ◌+◌, ◌*◌, ◌/◌, ◌%◌, ◌^◌, ◌<◌, IsTrue, true, List, [], ◌∷◌, ◌++◌, length, get_or, codes, refl, subst, sym, ap, ◌∙◌, arith, append_assoc, ◌⊎◌, inl, inr}
use Rattle.std.specs.List.{list_all}
use Rattle.std.proofs.lemmas.Bool.{and_from}
use Rattle.std.proofs.lemmas.List.Folds.{list_all-append}
use Rattle.adp_model.specs.Printable.{is_printable_byte, IsPrintable}
use Rattle.adp_model.specs.Parts.{letters_of}
use Rattle.adp_model.specs.Tokens.{IsIn}
use Rattle.adp_model.specs.BigReport.{next_state, letter_of, made_word, pairs_grammar}

-- ---- one more letter

pub made_more : (state left others : ℕ) → left ≡ suc others
    → made_word state left ≡ letter_of (next_state state) ∷ made_word (next_state state) others
made_more state left others same = ap (made_word state) same

pub length_made : (state size : ℕ) → length (made_word state size) ≡ size
length_made state zero = refl
length_made state (suc size) = ap suc (length_made (next_state state) size)

-- ---- which letters there are

-- one of p, q, r and s
abbrev pub IsPaired : ℕ → Type 0
IsPaired letter = (letter ≡ 112) ⊎ ((letter ≡ 113) ⊎ ((letter ≡ 114) ⊎ (letter ≡ 115)))

paired_at : (index : ℕ) → index < 4 → IsPaired (get_or (codes "pqrs") index 0)
paired_at zero below = inl refl
paired_at (suc zero) below = inr (inl refl)
paired_at (suc (suc zero)) below = inr (inr (inl refl))
paired_at (suc (suc (suc zero))) below = inr (inr (inr refl))
paired_at (suc (suc (suc (suc index)))) below = absurd (omega arith)

high_bits : (number : ℕ) → number % 2 ^ 64 / 2 ^ 62 < 4
high_bits number = omega arith

pub letter_paired : (state : ℕ) → IsPaired (letter_of (next_state state))
letter_paired state =
    paired_at (next_state state / 2 ^ 62) (high_bits (state * 6364136223846793005 + 1442695040888963407))

pub printable_paired : (letter : ℕ) → IsPaired letter → IsTrue (is_printable_byte letter)
printable_paired letter (inl same) = subst (λ n. IsTrue (is_printable_byte n)) (sym same) refl
printable_paired letter (inr (inl same)) = subst (λ n. IsTrue (is_printable_byte n)) (sym same) refl
printable_paired letter (inr (inr (inl same))) = subst (λ n. IsTrue (is_printable_byte n)) (sym same) refl
printable_paired letter (inr (inr (inr same))) = subst (λ n. IsTrue (is_printable_byte n)) (sym same) refl

pub in_class : (letter : ℕ) → IsPaired letter → IsIn (letters_of pairs_grammar 0) letter
in_class letter (inl same) = subst (IsIn (letters_of pairs_grammar 0)) (sym same) refl
in_class letter (inr (inl same)) = subst (IsIn (letters_of pairs_grammar 0)) (sym same) refl
in_class letter (inr (inr (inl same))) = subst (IsIn (letters_of pairs_grammar 0)) (sym same) refl
in_class letter (inr (inr (inr same))) = subst (IsIn (letters_of pairs_grammar 0)) (sym same) refl

pub made_paired : (state size index d : ℕ) → index < size → IsPaired (get_or (made_word state size) index d)
made_paired state zero index d below = absurd (omega arith)
made_paired state (suc size) zero d below = letter_paired state
made_paired state (suc size) (suc index) d below = made_paired (next_state state) size index d (omega arith)

-- ---- one more letter behind those that are made

pub word_more : (word letters longer : List ℕ) (state left others letter next : ℕ)
    → word ≡ letters ++ made_word state left → left ≡ suc others → next ≡ next_state state → letter ≡ letter_of next
    → longer ≡ letters ++ letter ∷ [] → word ≡ longer ++ made_word next others
word_more word letters longer state left others letter next made same moved here grown =
    let P : ℕ → Type 0 = λ n. made_word state left ≡ letter_of n ∷ made_word n others in
    let step : made_word state left ≡ letter_of next ∷ made_word next others =
    subst P (sym moved) (made_more state left others same) in
    let first : letter_of next ∷ made_word next others ≡ letter ∷ made_word next others =
    ap (λ l. l ∷ made_word next others) (sym here) in
    made ∙ ap (λ rest. letters ++ rest) (step ∙ first)
    ∙ sym (append_assoc letters (letter ∷ []) (made_word next others))
    ∙ ap (λ l. l ++ made_word next others) (sym grown)

pub printable_more : (letters longer : List ℕ) (state letter next : ℕ) → IsPrintable letters
    → next ≡ next_state state → letter ≡ letter_of next → longer ≡ letters ++ letter ∷ [] → IsPrintable longer
printable_more letters longer state letter next printable moved here grown =
    let one : IsTrue (is_printable_byte letter) =
    subst (λ n. IsTrue (is_printable_byte n)) (sym (here ∙ ap letter_of moved))
    (printable_paired (letter_of (next_state state)) (letter_paired state)) in
    subst IsPrintable (sym grown)
    (list_all-append is_printable_byte letters (letter ∷ [])
    ∙ and_from (list_all is_printable_byte letters) (list_all is_printable_byte (letter ∷ [])) printable
    (and_from (is_printable_byte letter) true one refl))
