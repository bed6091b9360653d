-- Lines and words that are written plainly: no byte ends a line or parts words but those that were put there for it.
use Rattle.std.proofs.Common.{◌≡◌, ℕ, suc, ◌-◌, ◌<◌, ◌==◌, false, All, List, [], ◌∷◌, ◌++◌, length, get_or, append_assoc, refl, ap, ◌∙◌, arith}
use Rattle.std.specs.Char.{is_newline}
use Rattle.std.specs.List.{count_by, slice_split}
use Rattle.std.specs.Str.Lines.{lines, strip_carriage_return}
use Rattle.std.proofs.lemmas.Bool.Decides.{nat_tests}
use Rattle.std.proofs.lemmas.List.Elements.{All-append, All-cons, All-weaker}
use Rattle.std.proofs.lemmas.List.Splits.{slice_split_at, slice_split_none}
use Rattle.adp_model.specs.Ascii.{line_feed, space}
use Rattle.adp_model.specs.declared.grammar.Grammar.{Grammar}
use Rattle.adp_model.specs.Report.{line}
use Rattle.table_certificate.specs.CertificateLines.{form_of, forms_among, forms_of, words_of}
use Rattle.table_certificate.proofs.CutWords.{is_space}
use Rattle.table_certificate.proofs.SplitLines.{counted_before, ended_line, lines_of_first}

-- ---- lines

-- each byte is a space or one above it
abbrev pub IsLine : List ℕ → Type 0
IsLine bytes = All (λ byte. 31 < byte) bytes

no_newline : (byte : ℕ) → 31 < byte → is_newline byte ≡ false
no_newline byte h = grind (arith, nat_tests)

whole_line : (content : List ℕ) → IsLine content → slice_split is_newline content ≡ content ∷ []
whole_line content plain = slice_split_none is_newline content (All-weaker (λ byte. 31 < byte) (λ byte. is_newline byte ≡ false) no_newline content plain)

not_returned : (content : List ℕ) → IsLine content → strip_carriage_return content ≡ content
not_returned [] plain = refl
not_returned (byte ∷ bytes) plain =
    let last : 31 < get_or (byte ∷ bytes) (length (byte ∷ bytes) - 1) 0 = plain (length (byte ∷ bytes) - 1) 0 (omega arith) in
    let other : (get_or (byte ∷ bytes) (length (byte ∷ bytes) - 1) 0 == 13) ≡ false = grind (arith, nat_tests) in
    rw other refl

-- the form of a line that an LF ends stands before those of the lines behind it
pub line_form : (grammar : Grammar) (content behind : List ℕ) → slice_split is_newline content ≡ content ∷ []
    → forms_of grammar (content ++ line_feed ∷ behind) ≡ form_of grammar (strip_carriage_return content) ∷ forms_of grammar behind
line_form grammar content behind alone =
    ap (λ n. forms_among grammar n (lines (content ++ line_feed ∷ behind))) (counted_before content behind alone)
    ∙ ap (λ them. forms_among grammar (suc (count_by is_newline behind)) them)
    (lines_of_first (content ++ line_feed ∷ behind) (strip_carriage_return content) behind (ended_line content behind alone))

pub form_then : (grammar : Grammar) (content behind : List ℕ) → IsLine content
    → forms_of grammar (line content ++ behind) ≡ form_of grammar content ∷ forms_of grammar behind
form_then grammar content behind plain =
    ap (forms_of grammar) (append_assoc content (line_feed ∷ []) behind)
    ∙ line_form grammar content behind (whole_line content plain)
    ∙ ap (λ first. form_of grammar first ∷ forms_of grammar behind) (not_returned content plain)

-- ---- words

-- each byte is above a space
abbrev pub IsWord : List ℕ → Type 0
IsWord bytes = All (λ byte. 32 < byte) bytes

no_space : (byte : ℕ) → 32 < byte → is_space byte ≡ false
no_space byte h = grind (arith, nat_tests)

no_spaces : (word : List ℕ) → IsWord word → All (λ byte. is_space byte ≡ false) word
no_spaces word plain = All-weaker (λ byte. 32 < byte) (λ byte. is_space byte ≡ false) no_space word plain

word_then : (word rest : List ℕ) → IsWord word → words_of (word ++ (space ∷ rest)) ≡ word ∷ words_of rest
word_then word rest plain = slice_split_at is_space word space rest (no_spaces word plain) refl

one_word : (word : List ℕ) → IsWord word → words_of word ≡ word ∷ []
one_word word plain = slice_split_none is_space word (no_spaces word plain)

-- four words with single spaces between them
abbrev pub spaced : List ℕ → List ℕ → List ℕ → List ℕ → List ℕ
spaced a b c d = a ++ (space ∷ (b ++ (space ∷ (c ++ (space ∷ d)))))

module _ (a b c d : List ℕ) (first : IsWord a) (second : IsWord b) (third : IsWord c) (fourth : IsWord d) where
  pub four_words : words_of (spaced a b c d) ≡ a ∷ b ∷ c ∷ d ∷ []
  four_words =
      word_then a (b ++ (space ∷ (c ++ (space ∷ d)))) first
      ∙ ap (λ (words : List (List ℕ)). a ∷ words) (word_then b (c ++ (space ∷ d)) second
      ∙ ap (λ (words : List (List ℕ)). b ∷ words) (word_then c d third
      ∙ ap (λ (words : List (List ℕ)). c ∷ words) (one_word d fourth)))

  low : (byte : ℕ) → 32 < byte → 31 < byte
  low byte h = omega arith

  in_line : (word : List ℕ) → IsWord word → IsLine word
  in_line word plain = All-weaker (λ byte. 32 < byte) (λ byte. 31 < byte) low word plain

  joined : (word rest : List ℕ) → IsWord word → IsLine rest → IsLine (word ++ (space ∷ rest))
  joined word rest plain behind =
      All-append (λ byte. 31 < byte) word (space ∷ rest) (in_line word plain) (All-cons (λ byte. 31 < byte) space rest (omega arith) behind)

  pub four_in_line : IsLine (spaced a b c d)
  four_in_line =
      joined a (b ++ (space ∷ (c ++ (space ∷ d)))) first (joined b (c ++ (space ∷ d)) second (joined c d third (in_line d fourth)))
