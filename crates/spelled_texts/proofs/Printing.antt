-- Pieces of lines that are printable.
use Rattle.std.proofs.Common.{◌≡◌, ℕ, Bool, true, false, ◌||◌, ◌==◌, List, [], ◌∷◌, ◌++◌, refl, arith}
use Rattle.std.specs.List.{list_all, flat_map, join_by, AllByRecursion}
use Rattle.std.proofs.lemmas.Bool.{and_parts, and_from}
use Rattle.std.proofs.lemmas.List.Folds.{list_all-append}
use Rattle.adp_model.specs.Printable.{is_printable_byte}
use Rattle.adp_model.specs.TreeText.{escaped, quoted}
use Rattle.adp_model.specs.WellFormed.{is_word_byte}
use Rattle.spelled_texts.proofs.ReadTokens.{IsWord}

-- every byte is printable
pub record Prints (bytes : List ℕ) : Type 0 where
  pub all : list_all is_printable_byte bytes ≡ true

pub literal_prints : (bytes : List ℕ) → list_all is_printable_byte bytes ≡ true → Prints bytes
literal_prints bytes h = record { all = h }

pub prints-append : {xs ys : List ℕ} → Prints xs → Prints ys → Prints (xs ++ ys)
prints-append {xs} {ys} first second = record { all = rw (list_all-append, first.all) second.all }

pub prints-cons : {bytes : List ℕ} (byte : ℕ) → is_printable_byte byte ≡ true → Prints bytes → Prints (byte ∷ bytes)
prints-cons byte h others = record { all = and_from (is_printable_byte byte) _ h others.all }

pub prints-flat_map : {X : Type 0} (text : X → List ℕ) (xs : List X) → AllByRecursion (λ x. Prints (text x)) xs → Prints (flat_map text xs)
prints-flat_map text [] h = record { all = refl }
prints-flat_map text (x ∷ xs) h = prints-append h.0 (prints-flat_map text xs h.1)

prints_further : {X : Type 0} (text : X → List ℕ) (separator : List ℕ) → Prints separator → (xs : List X) → AllByRecursion (λ x. Prints (text x)) xs → Prints (flat_map (λ x. separator ++ text x) xs)
prints_further text separator between [] h = record { all = refl }
prints_further text separator between (x ∷ xs) h = prints-append (prints-append between h.0) (prints_further text separator between xs h.1)

pub prints_joined : {X : Type 0} (text : X → List ℕ) (separator : List ℕ) → Prints separator → (xs : List X) → AllByRecursion (λ x. Prints (text x)) xs → Prints (join_by text separator xs)
prints_joined text separator between [] h = record { all = refl }
prints_joined text separator between (x ∷ xs) h = prints-append h.0 (prints_further text separator between xs h.1)

word_byte_prints : (byte : ℕ) → is_word_byte byte ≡ true → is_printable_byte byte ≡ true
word_byte_prints byte h = grind (arith, h)

word_bytes_print : (bytes : List ℕ) → list_all is_word_byte bytes ≡ true → list_all is_printable_byte bytes ≡ true
word_bytes_print [] h = refl
word_bytes_print (byte ∷ bytes) h =
    let parts = and_parts (is_word_byte byte) (list_all is_word_byte bytes) h in
    rw (word_byte_prints byte parts.0, word_bytes_print bytes parts.1) refl

pub word_prints : (word : List ℕ) → IsWord word → Prints word
word_prints word is = record { all = word_bytes_print word is.in_word }

escaped_prints : (letter : ℕ) → is_printable_byte letter ≡ true → Prints (escaped letter)
escaped_prints letter h = step (letter == 34 || letter == 92) refl
  where
    step : (b : Bool) → (letter == 34 || letter == 92) ≡ b → Prints (escaped letter)
    step true e = record { all = rw (e, h) refl }
    step false e = record { all = rw (e, h) refl }

letters_print : (letters : List ℕ) → list_all is_printable_byte letters ≡ true → AllByRecursion (λ letter. Prints (escaped letter)) letters
letters_print [] h = tt
letters_print (letter ∷ letters) h =
    let parts = and_parts (is_printable_byte letter) (list_all is_printable_byte letters) h in
    (escaped_prints letter parts.0, letters_print letters parts.1)

pub quoted_prints : (letters : List ℕ) → list_all is_printable_byte letters ≡ true → Prints (quoted letters)
quoted_prints letters h = prints-cons 34 refl (prints-append (prints-flat_map escaped letters (letters_print letters h)) (record { all = refl }))
