-- A line of five words, or more, has no form.
use Rattle.std.proofs.Common.{◌≡◌, ℕ, Bool, true, false, List, [], ◌∷◌, refl, sym, ap, ◌∙◌}
use Rattle.std.specs.List.{onto_first}
use Rattle.std.proofs.lemmas.List.Splits.{slice_split-cons_no, slice_split-cons_yes}
use Rattle.adp_model.specs.declared.grammar.Grammar.{Grammar}
use Rattle.table_certificate.specs.CertificateLines.{Formless, form_by_words, form_of, words_of}
use Rattle.table_certificate.proofs.CutWords.{is_space}

record IsSomeWord (line : List ℕ) : Type 0 where
  first : List ℕ
  others : List (List ℕ)
  is : words_of line ≡ first ∷ others

some_word : (line : List ℕ) → IsSomeWord line
some_word [] = record { first = []; others = []; is = refl }
some_word (byte ∷ line) = by (is_space byte) refl (some_word line)
  where
    by : (ends : Bool) → is_space byte ≡ ends → IsSomeWord line → IsSomeWord (byte ∷ line)
    by true e rest = record { first = []; others = words_of line; is = slice_split-cons_yes is_space byte line e }
    by false e rest = record { first = byte ∷ rest.first; others = rest.others; is = slice_split-cons_no is_space byte line e ∙ ap (onto_first byte) rest.is }

pub five_words : (grammar : Grammar) (line a b c d one two three four : List ℕ) → words_of line ≡ a ∷ words_of one
    → words_of one ≡ b ∷ words_of two → words_of two ≡ c ∷ words_of three → words_of three ≡ d ∷ words_of four
    → Formless ≡ form_of grammar line
five_words grammar line a b c d one two three four e f g h =
    let last = some_word four in
    let all : words_of line ≡ a ∷ b ∷ c ∷ d ∷ last.first ∷ last.others =
    e ∙ ap (λ (x : List (List ℕ)). a ∷ x) (f ∙ ap (λ (x : List (List ℕ)). b ∷ x) (g ∙ ap (λ (x : List (List ℕ)). c ∷ x) (h ∙ ap (λ (x : List (List ℕ)). d ∷ x) last.is))) in
    sym (ap (form_by_words grammar) all)
