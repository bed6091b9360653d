use Rattle.std.proofs.Common.{◌≡◌, ℕ, true, Some, refl, sym, ◌∙◌}
use Rattle.job_texts.specs.DeclaredNames.{TextLines}
use Rattle.job_texts.specs.JobText.{fault_at}
use Rattle.job_texts.specs.TextFaults.{has_other_first_line}
use Rattle.grammar_text.proofs.reader.kinds.least_kind.Goals as goal

-- behind another first line no other kind is looked for
at_first_line : (text : TextLines) (line : ℕ) → has_other_first_line text line ≡ true
    → fault_at text line ≡ Some (record { line = line; kind = 1; count = 0 })
at_first_line text line other = rw other refl

pub returns-then-tests : goal.returns-then-tests
returns-then-tests c = λ text are.
    c.fault.ensures
    ∙ sym (at_first_line text c.args.line (sym are.other_first_line ∙ c.if-tests.true))
