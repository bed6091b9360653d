-- The form of a text's first line, and the forms of the lines behind it.
use Rattle.std.specs.Prelude.{◌≡◌, ℕ, ◌<◌, false, List, ◌∷◌, length}
use Rattle.adp_model.specs.declared.grammar.Grammar.{Grammar}
use Rattle.table_certificate.specs.declared.forms.Form.{Form}
use Rattle.table_certificate.specs.declared.forms.Form.TheVariants as forms
use Rattle.table_certificate.specs.CertificateLines.{LineForm, forms_of}
use Rattle.table_certificate.specs.KeptForms.{kept_form}
use Rattle.table_certificate.specs.LocalCertificate.{is_word_line}
use Rattle.table_certificate.specs.BlockLines.{IsKnownLine}

-- the kept form begins a block
abbrev pub IsHead : Form → Type 0
IsHead (forms.Word number cells) = Unit {0}
IsHead form = ⊥

pub record IsNextForm (grammar : Grammar) (text : List ℕ) (form : Form) (behind : List ℕ) : Type 0 where
  pub exact : LineForm
  pub first : forms_of grammar text ≡ exact ∷ forms_of grammar behind
  pub is : form ≡ kept_form exact
  pub known : IsKnownLine grammar exact
  pub fewer : length behind < length text

-- the same where the line is no head of a block
pub record IsNextLine (grammar : Grammar) (text : List ℕ) (form : Form) (behind : List ℕ) : Type 0 where
  pub next : IsNextForm grammar text form behind
  pub other : is_word_line next.exact ≡ false
