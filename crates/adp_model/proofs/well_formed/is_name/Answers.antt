use Rattle.std.proofs.Common.{◌≡◌, ℕ, true, nat_le, List, ◌∷◌, length, sym, ◌∙◌, refl}
use Rattle.std.specs.List.{list_all}
use Rattle.adp_model.specs.WellFormed.{is_letter_byte, is_name, is_word_byte}
use Rattle.adp_model.proofs.well_formed.is_name.Goals as goal
use Rattle.adp_model.proofs.well_formed.is_name.Goals.{then-is_ascii_alphabetic, else-is_ascii_alphabetic}

-- of a letter and more bytes of a word, the length decides
by_length : (bytes others : List ℕ) (first : ℕ) → bytes ≡ first ∷ others → is_letter_byte first ≡ true
    → list_all is_word_byte others ≡ true → nat_le (length others) 31 ≡ is_name bytes
by_length bytes others first is letter word = rw (is, letter, word) refl

pub returns-then-are_word_bytes : goal.returns-then-are_word_bytes
returns-then-are_word_bytes c =
    elim c.if-is_ascii_alphabetic.branch [
      | then-is_ascii_alphabetic w ↦
          by_length c.args.bytes.now c.in-Some.others.now c.in-Some.first.now c.in-Some.ensures.cases.0
          (sym c.is_ascii_alphabetic.ensures.value ∙ w.if-is_ascii_alphabetic.true)
          (sym w.are_word_bytes.ensures ∙ sym w.value-is ∙ c.if-are_word_bytes.true)
      | else-is_ascii_alphabetic w ↦ cc
    ]
