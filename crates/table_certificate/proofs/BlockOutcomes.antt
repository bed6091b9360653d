-- What comes of a block.
use Rattle.std.proofs.Common.{◌≡◌, ℕ, ◌+◌, ◌≤◌, inl, inr, false, Option, ℤ, List, [], ◌∷◌, ◌++◌, length, refl, sym, ap, ◌∙◌}
use Rattle.adp_model.specs.declared.grammar.Grammar.{Grammar}
use Rattle.adp_model.specs.PosedProblem.{PosedProblem}
use Rattle.table_certificate.specs.declared.forms.Form.{Form}
use Rattle.table_certificate.specs.declared.forms.Form.TheVariants as kept_forms
use Rattle.table_certificate.specs.CertificateLines.{LineForm, CertLine, WordLine, CellLine, Formless, forms_of}
use Rattle.table_certificate.specs.LocalCertificate.{is_word_line, up_to_word_line, IsRightWordLine, IsTold}
use Rattle.table_certificate.specs.KeptForms.{kept, kept_form}
use Rattle.table_certificate.specs.BlockLines.{AreRightFurther, BeginsBlock, IsAtHead, IsFirstFalseAhead, IsFirstWrong, IsRightBlock, lines_ahead}
use Rattle.table_certificate.proofs.BlockSteps.{ahead_of}

-- a head as it is kept
pub record IsHeadKept (exact : LineForm) (told many : ℕ) : Type 0 where
  pub number : ℕ
  pub cells : ℕ
  pub is : exact ≡ WordLine number cells
  pub told_is : told ≡ kept number
  pub many_is : many ≡ kept cells

pub head_kept : (exact : LineForm) (form : Form) → form ≡ kept_form exact → (told many : ℕ) → form ≡ kept_forms.Word told many
    → IsHeadKept exact told many
head_kept CertLine form e told many is = cc
head_kept (CellLine cell score) form e told many is = cc
head_kept Formless form e told many is = cc
head_kept (WordLine number cells) form e told many is = record {
  number = number;
  cells = cells;
  is = refl;
  told_is = first told many (kept number) (kept cells) (sym is ∙ e);
  many_is = second told many (kept number) (kept cells) (sym is ∙ e);
}
  where
    first : (a b x y : ℕ) → kept_forms.Word a b ≡ kept_forms.Word x y → a ≡ x
    first a b x y h = cc

    second : (a b x y : ℕ) → kept_forms.Word a b ≡ kept_forms.Word x y → b ≡ y
    second a b x y h = cc

pub not_at_head : (grammar : Grammar) (text behind : List ℕ) (form : LineForm) → IsAtHead grammar text
    → forms_of grammar text ≡ form ∷ forms_of grammar behind → is_word_line form ≡ false → ⊥
not_at_head grammar text behind form at is none =
    let h : form ∷ lines_ahead grammar behind ≡ [] = sym (ahead_of grammar text behind form is none) ∙ at in
    cc

module _ (p : PosedProblem) (block : ℕ) (text rest behind : List ℕ) (number cells : ℕ)
    (is : forms_of p.grammar text ≡ WordLine number cells ∷ forms_of p.grammar rest)
    (parts : forms_of p.grammar rest ≡ lines_ahead p.grammar rest ++ forms_of p.grammar behind)
    (ends : IsAtHead p.grammar behind) where
  begins : BeginsBlock p text (lines_ahead p.grammar rest) number cells (forms_of p.grammar behind)
  begins = record {
    forms = is ∙ ap (λ (x : List LineForm). WordLine number cells ∷ x) parts;
    headless = ap up_to_word_line (sym parts);
    ends = ends;
  }

  pub false_head : (IsRightWordLine p (lines_ahead p.grammar rest) block number cells → ⊥) → IsFirstFalseAhead p block text 0
  false_head wrong = inr (lines_ahead p.grammar rest, forms_of p.grammar behind, number, cells, begins, inl (wrong, refl))

  module _ (head : IsRightWordLine p (lines_ahead p.grammar rest) block number cells) where
    pub false_further : (place : ℕ) → IsFirstWrong p (lines_ahead p.grammar rest) place → IsFirstFalseAhead p block text (place + 1)
    false_further place wrong =
        inr (lines_ahead p.grammar rest, forms_of p.grammar behind, number, cells, begins, inr (head, place, wrong, refl))

    pub right_block : (value : Option ℤ) (count : ℕ) → AreRightFurther p (lines_ahead p.grammar rest)
        → IsTold p (lines_ahead p.grammar rest) value → count ≡ length (lines_ahead p.grammar rest)
        → count + 1 + length behind ≤ length text → IsRightBlock p block text value (count + 1) behind
    right_block value count right told counted fewer = record {
      lines = lines_ahead p.grammar rest;
      number = number;
      cells = cells;
      begins = begins;
      head = head;
      further = right;
      told = told;
      counted = ap (λ n. n + 1) counted;
      fewer = fewer;
    }

pub none_ahead : (p : PosedProblem) (block : ℕ) (text : List ℕ) → text ≡ [] → IsFirstFalseAhead p block text 0
none_ahead p block text none = inl (ap (forms_of p.grammar) none, refl)
