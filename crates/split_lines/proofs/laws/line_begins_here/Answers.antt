use Rattle.std.proofs.Common.{◌≡◌, Option, Some, None, drop, if◌then◌else◌, sym, ap, subst, ◌∙◌, inl, inr}
use Rattle.std.specs.Prelude.{◌==◌, IfSome}
use Rattle.std.proofs.lemmas.Bool.{cases_Bool, eqb-true}
use Rattle.split_lines.specs.declared.lines.Line.{Line}
use Rattle.split_lines.specs.Lines.{IsLine}
use Rattle.split_lines.proofs.laws.line_begins_here.Goals as goal

pub returns : goal.returns
returns c = λ p arguments given here ahead it told is has.
    elim (cases_Bool (ahead == 0)) [
      | inl begins ↦
          let same : given ≡ Some it = ap (λ b. if b then given else None) (sym begins) ∙ sym told ∙ is in
          let at_first = subst (λ n. IfSome given (λ at. IsLine p (drop n arguments) at)) (eqb-true ahead 0 begins) has in
          subst (λ (o : Option Line). IfSome o (λ at. IsLine p arguments at)) same at_first
      | inr later ↦ let none : here ≡ None = told ∙ ap (λ b. if b then given else None) later in absurd cc
    ]
