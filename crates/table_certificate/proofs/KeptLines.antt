-- Lines by their kept forms.
use Rattle.std.proofs.Common.{◌≡◌, ℕ, ℤ, false, MatchOption, Option, Some, None, List, [], ◌∷◌, ◌++◌, refl, sym, ap, subst, ◌∙◌}
use Rattle.adp_model.specs.declared.cell.Cell.{Cell}
use Rattle.adp_model.specs.declared.grammar.Grammar.{Grammar}
use Rattle.adp_model.specs.PosedProblem.{PosedProblem}
use Rattle.table_certificate.specs.declared.claims.Claims.{Claims}
use Rattle.table_certificate.specs.declared.forms.Form.{Form}
use Rattle.table_certificate.specs.declared.forms.Form.TheVariants as kept_forms
use Rattle.table_certificate.specs.CertificateLines.{LineForm, CertLine, WordLine, CellLine, Formless}
use Rattle.table_certificate.specs.LocalCertificate.{is_word_line, last_cell, said_of, IsRightCellLine, IsRightInBlock}
use Rattle.table_certificate.specs.KeptForms.{kept, kept_form}
use Rattle.table_certificate.specs.Claims.{Tell}
use Rattle.table_certificate.specs.BlockLines.{IsKnownForm, IsKnownLine}
use Rattle.table_certificate.proofs.KeptClaims.{said_kept}

-- the line of a cell as it is kept
pub record IsCellKept (exact : LineForm) (rule from to : ℕ) (score : Option ℤ) : Type 0 where
  pub cell : Cell
  pub is : exact ≡ CellLine cell score
  pub rule_is : rule ≡ cell.rule
  pub from_is : from ≡ kept cell.from
  pub to_is : to ≡ kept cell.to

pub cell_kept : (exact : LineForm) (form : Form) → form ≡ kept_form exact → (rule from to : ℕ) (score : Option ℤ)
    → form ≡ kept_forms.Cell rule from to score → IsCellKept exact rule from to score
cell_kept CertLine form e rule from to score is = cc
cell_kept (WordLine number cells) form e rule from to score is = cc
cell_kept Formless form e rule from to score is = cc
cell_kept (CellLine cell said) form e rule from to score is =
    let h : kept_forms.Cell rule from to score ≡ kept_forms.Cell cell.rule (kept cell.from) (kept cell.to) said = sym is ∙ e in
    record {
      cell = cell;
      is = ap (CellLine cell) (fourth rule from to cell.rule (kept cell.from) (kept cell.to) said score h);
      rule_is = cc;
      from_is = cc;
      to_is = cc;
    }
  where
    fourth : (a b c x y z : ℕ) (s t : Option ℤ) → kept_forms.Cell a b c t ≡ kept_forms.Cell x y z s → s ≡ t
    fourth a b c x y z s t h = cc

-- a form that is not that of a cell
abbrev pub IsNoCell : Form → Type 0
IsNoCell (kept_forms.Cell rule from to score) = ⊥
IsNoCell form = Unit {0}

-- a line that is none of a cell says nothing
pub nothing_said : (exact : LineForm) (form : Form) → form ≡ kept_form exact → IsNoCell form → (cell : Cell)
    → said_of (exact ∷ []) cell ≡ None
nothing_said CertLine form e none cell = refl
nothing_said (WordLine number cells) form e none cell = refl
nothing_said Formless form e none cell = refl
nothing_said (CellLine other score) form e none cell = absurd (subst IsNoCell e none)

pub tell_nothing : (claims : Claims) (form : Form) → IsNoCell form → (lines : List LineForm) (exact : LineForm)
    → form ≡ kept_form exact → Tell claims lines → Tell claims (lines ++ exact ∷ [])
tell_nothing claims form none lines exact e told = λ cell short.
    told cell short ∙ sym (said_kept lines exact cell (nothing_said exact form e none cell))

pub tell_cell : (claims : Claims) (lines : List LineForm) (exact : LineForm) (rule from to : ℕ) (score : Option ℤ)
    → (kept : IsCellKept exact rule from to score) → Tell claims (lines ++ CellLine kept.cell score ∷ [])
    → Tell claims (lines ++ exact ∷ [])
tell_cell claims lines exact rule from to score kept told =
    subst (λ (x : LineForm). Tell claims (lines ++ x ∷ [])) (sym kept.is) told

-- a line that is none of a cell, nor the head of a block, is not right
pub no_cell_wrong : (p : PosedProblem) (block : List LineForm) (earlier : Option Cell) (exact : LineForm) (form : Form)
    → form ≡ kept_form exact → IsNoCell form → is_word_line exact ≡ false → (number : ℕ) → IsRightInBlock p block number earlier exact → ⊥
no_cell_wrong p block earlier CertLine form e none other number right = right
no_cell_wrong p block earlier Formless form e none other number right = right
no_cell_wrong p block earlier (WordLine n m) form e none other number right = cc
no_cell_wrong p block earlier (CellLine cell score) form e none other number right = absurd (subst IsNoCell e none)

-- a right line of a cell
pub cell_is_right : (p : PosedProblem) (block : List LineForm) (earlier : Option Cell) (exact : LineForm) (rule from to : ℕ)
    (score : Option ℤ) → (kept : IsCellKept exact rule from to score) → (found : Cell) → found ≡ kept.cell
    → IsRightCellLine p block earlier kept.cell score
    → (Some found ≡ last_cell earlier (exact ∷ [])) × ((number : ℕ) → IsRightInBlock p block number earlier exact)
cell_is_right p block earlier exact rule from to score kept found same right = (
  ap Some same ∙ ap (λ (x : LineForm). last_cell earlier (x ∷ [])) (sym kept.is),
  λ number. subst (IsRightInBlock p block number earlier) (sym kept.is) right,
)

pub cell_is_wrong : (p : PosedProblem) (block : List LineForm) (earlier : Option Cell) (exact : LineForm) (rule from to : ℕ)
    (score : Option ℤ) → (kept : IsCellKept exact rule from to score) → (IsRightCellLine p block earlier kept.cell score → ⊥)
    → (number : ℕ) → IsRightInBlock p block number earlier exact → ⊥
cell_is_wrong p block earlier exact rule from to score kept wrong number right =
    wrong (subst (IsRightInBlock p block number earlier) kept.is right)

-- its rule is known
pub form_known : (grammar : Grammar) (exact : LineForm) (form : Form) → form ≡ kept_form exact → IsKnownLine grammar exact
    → IsKnownForm grammar form
form_known grammar CertLine form e known = subst (IsKnownForm grammar) (sym e) tt
form_known grammar (WordLine number cells) form e known = subst (IsKnownForm grammar) (sym e) tt
form_known grammar (CellLine cell score) form e known = subst (IsKnownForm grammar) (sym e) known
form_known grammar Formless form e known = subst (IsKnownForm grammar) (sym e) tt

-- what comes of the line of a cell
pub line_result : (p : PosedProblem) (block : List LineForm) (earlier : Option Cell) (exact : LineForm) (rule from to : ℕ)
    (score : Option ℤ) → (kept : IsCellKept exact rule from to score) → (result : Option Cell)
    → MatchOption result (IsRightCellLine p block earlier kept.cell score → ⊥) (λ cell. (cell ≡ kept.cell) × IsRightCellLine p block earlier kept.cell score)
    → MatchOption result ((number : ℕ) → IsRightInBlock p block number earlier exact → ⊥)
    (λ cell. (Some cell ≡ last_cell earlier (exact ∷ [])) × ((number : ℕ) → IsRightInBlock p block number earlier exact))
line_result p block earlier exact rule from to score kept None wrong = cell_is_wrong p block earlier exact rule from to score kept wrong
line_result p block earlier exact rule from to score kept (Some found) right = cell_is_right p block earlier exact rule from to score kept found right.0 right.1
