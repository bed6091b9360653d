-- The forms of a text's lines, one after another.
use Rattle.std.proofs.Common.{◌≡◌, ◌≢◌, ℕ, suc, ◌+◌, ◌<◌, ◌&&◌, ℤ, Bool, true, false, cond, Option, Some, None, codes, List, [], ◌∷◌, length, map, take, drop, length-drop, refl, sym, ap, subst, ◌∙◌, arith}
use Rattle.std.specs.List.{count_by, position_or_len}
use Rattle.std.specs.Char.{is_newline}
use Rattle.std.specs.Str.Lines.{lines, strip_carriage_return}
use Rattle.adp_model.specs.declared.grammar.Grammar.{Grammar}
use Rattle.table_certificate.specs.declared.forms.Form.{Form}
use Rattle.table_certificate.specs.declared.forms.Form.TheVariants as kept_forms
use Rattle.table_certificate.specs.CertificateLines.{LineForm, CertLine, WordLine, CellLine, Formless, cell_line, form_by_words, form_of, forms_among, forms_of, is_text, natural_of, rule_named, said_score, word_line, words_of}
use Rattle.table_certificate.specs.JobSplit.{IsFirstLine}
use Rattle.table_certificate.specs.KeptForms.{kept_form}
use Rattle.table_certificate.specs.LocalCertificate.{is_word_line, up_to_word_line}
use Rattle.table_certificate.specs.BlockLines.{IsAtHead, IsKnownLine}
use Rattle.table_certificate.specs.NextForms.{IsHead, IsNextForm}
use Rattle.std.proofs.lemmas.List.Quantifiers.{position-Some}
use Rattle.adp_model.specs.declared.grammar.Rule as rules
use Rattle.table_certificate.proofs.SplitLines.{counted_end, counted_whole, ended_first, lines_of_first, whole_first}

-- ---- the rule of a line of a cell is known

known_cell : (grammar : Grammar) (rule from to : Option ℕ) (score : Option (Option ℤ))
    → ((number : ℕ) → rule ≡ Some number → number < length grammar.rules) → IsKnownLine grammar (cell_line rule from to score)
known_cell grammar (Some rule) (Some from) (Some to) (Some score) known = known rule refl
known_cell grammar None from to score known = tt
known_cell grammar (Some rule) None to score known = tt
known_cell grammar (Some rule) (Some from) None score known = tt
known_cell grammar (Some rule) (Some from) (Some to) None known = tt

known_word : (grammar : Grammar) (number cells : Option ℕ) → IsKnownLine grammar (word_line number cells)
known_word grammar (Some number) (Some cells) = tt
known_word grammar None cells = tt
known_word grammar (Some number) None = tt

known_either : (grammar : Grammar) (b : Bool) (x y : LineForm) → IsKnownLine grammar x → IsKnownLine grammar y
    → IsKnownLine grammar (cond b x y)
known_either grammar true x y one other = one
known_either grammar false x y one other = other

known_rule : (grammar : Grammar) (name : List ℕ) (number : ℕ) → rule_named grammar name ≡ Some number
    → number < length grammar.rules
known_rule grammar name number is =
    (position-Some (λ (rule : rules.Rule). is_text rule.name name) grammar.rules number (record { name = []; alts = [] }) is).0

known_words : (grammar : Grammar) (words : List (List ℕ)) → IsKnownLine grammar (form_by_words grammar words)
known_words grammar [] = tt
known_words grammar (first ∷ []) = known_either grammar (is_text first (codes "cert")) CertLine Formless tt tt
known_words grammar (first ∷ second ∷ []) = tt
known_words grammar (first ∷ second ∷ third ∷ []) = tt
known_words grammar (first ∷ second ∷ third ∷ fourth ∷ []) =
    known_either grammar (is_text first (codes "word") && is_text third (codes "cells")) (word_line (natural_of second) (natural_of fourth))
    (cell_line (rule_named grammar first) (natural_of second) (natural_of third) (said_score fourth))
    (known_word grammar (natural_of second) (natural_of fourth))
    (known_cell grammar (rule_named grammar first) (natural_of second) (natural_of third) (said_score fourth) (known_rule grammar first))
known_words grammar (first ∷ second ∷ third ∷ fourth ∷ fifth ∷ words) = tt

-- ---- the first line

-- a text that no newline ends is one line without form
pub last_form : (grammar : Grammar) (text : List ℕ) (end : ℕ) → 0 < length text → end ≡ position_or_len is_newline text
    → end ≡ length text → IsNextForm grammar text kept_forms.Formless (drop end text)
last_form grammar text end some at all = record {
  exact = Formless;
  first = by;
  is = refl;
  known = tt;
  fewer = omega (arith, length-drop end text, all, some);
}
  where
    first : IsFirstLine text text (drop end text)
    first = whole_first text end some at all

    by : forms_of grammar text ≡ Formless ∷ forms_of grammar (drop end text)
    by =
        ap (λ n. forms_among grammar n (lines text)) (counted_whole text end at all)
        ∙ ap (λ them. map (λ line. Formless) them) (lines_of_first text text (drop end text) first)
        ∙ ap (λ (rest : List LineForm). Formless ∷ rest) (none (drop end text) (omega (arith, length-drop end text, all)))
      where
        none : (rest : List ℕ) → length rest ≡ 0 → map (λ (line : List ℕ). Formless) (lines rest) ≡ forms_of grammar rest
        none [] e = refl
        none (byte ∷ rest) e = absurd (omega (arith, e))

-- a line that a newline ends has its form
pub ended_form : (grammar : Grammar) (text line : List ℕ) (end : ℕ) → end ≡ position_or_len is_newline text
    → end ≢ length text → end < length text → line ≡ strip_carriage_return (take end text)
    → IsNextForm grammar text (kept_form (form_of grammar line)) (drop (end + 1) text)
ended_form grammar text line end at more low is = record {
  exact = form_of grammar line;
  first =
      ap (λ n. forms_among grammar n (lines text)) (counted_end text end at more)
      ∙ ap (λ them. forms_among grammar (suc (count_by is_newline (drop (end + 1) text))) them) (lines_of_first text line (drop (end + 1) text) (ended_first text line end at more is));
  is = refl;
  known = known_words grammar (words_of line);
  fewer = omega (arith, length-drop (end + 1) text, low);
}

-- ---- the head that is next

-- a line that begins a block ends the lines before
pub ahead_head : (form : LineForm) (rest : List LineForm) → is_word_line form ≡ true → up_to_word_line (form ∷ rest) ≡ []
ahead_head form rest e = rw e refl

pub ahead_other : (form : LineForm) (rest : List LineForm) → is_word_line form ≡ false
    → up_to_word_line (form ∷ rest) ≡ form ∷ up_to_word_line rest
ahead_other form rest e = rw e refl

-- a kept form begins a block where its line does
pub head_line : (exact : LineForm) (form : Form) → form ≡ kept_form exact → IsHead form → is_word_line exact ≡ true
head_line (WordLine number cells) form e head = refl
head_line CertLine form e head = absurd (subst IsHead e head)
head_line (CellLine cell score) form e head = absurd (subst IsHead e head)
head_line Formless form e head = absurd (subst IsHead e head)

pub other_line : (exact : LineForm) (form : Form) → form ≡ kept_form exact → (IsHead form → ⊥) → is_word_line exact ≡ false
other_line (WordLine number cells) form e none = absurd (none (subst IsHead (sym e) tt))
other_line CertLine form e none = refl
other_line (CellLine cell score) form e none = refl
other_line Formless form e none = refl

-- behind the lines before it the head of a block is next
pub at_head : (grammar : Grammar) (text : List ℕ) (form : Form) (behind : List ℕ) → (next : IsNextForm grammar text form behind)
    → is_word_line next.exact ≡ true → IsAtHead grammar text
at_head grammar text form behind next head = ap up_to_word_line next.first ∙ ahead_head next.exact (forms_of grammar behind) head

pub at_end : (grammar : Grammar) (text : List ℕ) → text ≡ [] → IsAtHead grammar text
at_end grammar text none = ap (λ (x : List ℕ). up_to_word_line (forms_of grammar x)) none
