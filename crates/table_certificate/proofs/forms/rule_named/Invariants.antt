use Rattle.std.proofs.Common.{◌≡◌, ℕ, ◌<◌, false}
use Rattle.adp_model.specs.Parts.{rule_at}
use Rattle.table_certificate.specs.CertificateLines.{is_text}
use Rattle.table_certificate.proofs.forms.rule_named.Given as goal

-- none of the first rules has the name
abbrev pub invariant-loop-number : goal.invariant-loop-number
invariant-loop-number l = (other : ℕ) → other < l.number → is_text (rule_at l.grammar other).name l.name ≡ false
