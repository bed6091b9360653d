-- The words of a line, cut at its first space.
use Rattle.std.proofs.Common.{◌≡◌, ℕ, zero, suc, ◌+◌, ◌<◌, ◌==◌, Bool, true, false, Option, Some, None, List, [], ◌∷◌, length, get_or, take, drop, refl, ap, subst, ◌∙◌, arith}
use Rattle.std.specs.List.{onto_first}
use Rattle.std.proofs.lemmas.Bool.{false_from_ne_true}
use Rattle.std.proofs.lemmas.List.Splits.{slice_split-cons_no, slice_split-cons_yes}
use Rattle.memchr.specs.Find.{IsFirstByte, is_byte}
use Rattle.adp_model.specs.Ascii.{space}
use Rattle.table_certificate.specs.CertificateLines.{words_of}

abbrev pub is_space : ℕ → Bool
is_space byte = byte == space

past_suc : (k : ℕ) → suc (k + 1) ≡ suc k + 1
past_suc k = omega arith

split_at : (line : List ℕ) (end : ℕ) → end < length line → is_space (get_or line end 0) ≡ true
    → ((j : ℕ) → j < end → is_space (get_or line j 0) ≡ false) → words_of line ≡ take end line ∷ words_of (drop (end + 1) line)
split_at [] end low here before = absurd (omega (arith, low))
split_at (byte ∷ line) zero low here before = slice_split-cons_yes is_space byte line here
split_at (byte ∷ line) (suc end) low here before =
    slice_split-cons_no is_space byte line (before 0 (omega arith))
    ∙ ap (onto_first byte) (split_at line end (omega (arith, low)) here (λ j under. before (suc j) (omega (arith, under))))
    ∙ ap (λ n. (byte ∷ take end line) ∷ words_of (drop n (byte ∷ line))) (past_suc end)

split_none : (line : List ℕ) → ((j : ℕ) → j < length line → is_space (get_or line j 0) ≡ false) → words_of line ≡ line ∷ []
split_none [] none = refl
split_none (byte ∷ line) none =
    slice_split-cons_no is_space byte line (none 0 (omega arith))
    ∙ ap (onto_first byte) (split_none line (λ j under. none (suc j) (omega (arith, under))))

pub cut_some : (line : List ℕ) (found : Option ℕ) (end : ℕ) → IsFirstByte (is_byte 32) line found → found ≡ Some end
    → words_of line ≡ take end line ∷ words_of (drop (end + 1) line)
cut_some line None end first e = cc
cut_some line (Some place) end first e =
    let same : place ≡ end = some_place place end e in
    subst (λ n. words_of line ≡ take n line ∷ words_of (drop (n + 1) line)) same
    (split_at line place first.0.high first.1 (λ j under. false_from_ne_true (is_space (get_or line j 0)) (first.0.before j (omega arith) under)))
  where
    some_place : (a b : ℕ) → Some a ≡ Some b → a ≡ b
    some_place a b h = cc

pub cut_none : (line : List ℕ) (found : Option ℕ) → IsFirstByte (is_byte 32) line found → found ≡ None
    → words_of line ≡ line ∷ []
cut_none line None none e = split_none line (λ j under. false_from_ne_true (is_space (get_or line j 0)) (none j (omega arith) under))
cut_none line (Some place) first e = cc
