-- Forms of lines as they are kept: a number above all places, counts and scores counts as one that is.
use Rattle.std.specs.Prelude.{ℕ, ◌^◌, nat_le, if◌then◌else◌}
use Rattle.table_certificate.specs.declared.forms.Form.{Form}
use Rattle.table_certificate.specs.declared.forms.Form.TheVariants as forms
use Rattle.table_certificate.specs.CertificateLines.{LineForm, CertLine, WordLine, CellLine, Formless}

-- numbers above this one count as this one
abbrev pub greatest_kept : ℕ
greatest_kept = 2 ^ 62

abbrev pub kept : ℕ → ℕ
kept number = if nat_le number greatest_kept then number else greatest_kept

abbrev pub kept_form : LineForm → Form
kept_form CertLine = forms.Cert
kept_form (WordLine number cells) = forms.Word (kept number) (kept cells)
kept_form (CellLine cell score) = forms.Cell cell.rule (kept cell.from) (kept cell.to) score
kept_form Formless = forms.Formless
