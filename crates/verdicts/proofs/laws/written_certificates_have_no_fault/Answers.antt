use Rattle.verdicts.proofs.Decided.{reports_or_not}
use Rattle.verdicts.proofs.laws.written_certificates_have_no_fault.Goals as goal

pub returns-clause-there : goal.returns-clause-there
returns-clause-there c words others bytes pieces command other is certifies is' verifies same short h refuted =
    c.inputs_are_checkable.ensures words bytes (λ checks.
    refuted (c.written_certificates_are_accepted.ensures words others bytes pieces command other is certifies is' verifies
    same checks short h))

pub returns-clause-only : goal.returns-clause-only
returns-clause-only c words others bytes pieces command other is certifies is' verifies same short h verdict k =
    reports_or_not verdict (λ refuted.
    c.inputs_are_checkable.ensures words bytes (λ checks.
    let found =
    c.written_certificates_are_accepted.ensures words others bytes pieces command other is certifies is' verifies same
    checks short h in
    refuted (c.verdict_is_unique.ensures.reported others _ found.0 verdict found.1 k)))
