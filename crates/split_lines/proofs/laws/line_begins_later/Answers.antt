use Rattle.std.proofs.Common.{◌≡◌, ℕ, zero, suc, ◌-◌, Option, None, List, ◌∷◌, drop, if◌then◌else◌, sym, subst, ◌∙◌, arith}
use Rattle.std.specs.Prelude.{◌==◌, IfSome}
use Rattle.adp_model.specs.declared.grammar.Arg.{Arg}
use Rattle.adp_model.specs.PosedProblem.{PosedProblem}
use Rattle.split_lines.specs.declared.lines.Line.{Line}
use Rattle.split_lines.specs.Lines.{IsLine}
use Rattle.split_lines.proofs.laws.line_begins_later.Goals as goal

begins_later : (p : PosedProblem) (argument : Arg) (others : List Arg) (given here : Option Line) (ahead : ℕ) → here ≡ (if ahead == 0 then given else None) → here ≡ None
    → IfSome given (λ at. IsLine p (drop ahead (argument ∷ others)) at) → IfSome given (λ at. IsLine p (drop (ahead - 1) others) at)
begins_later p argument others given here zero told is has =
    let same : given ≡ None = sym told ∙ is in
    subst (λ (o : Option Line). IfSome o (λ at. IsLine p (drop (0 - 1) others) at)) (sym same) tt
begins_later p argument others given here (suc ahead) told is has =
    let same : ahead ≡ suc ahead - 1 = omega arith in
    subst (λ n. IfSome given (λ at. IsLine p (drop n others) at)) same has

pub returns : goal.returns
returns c = begins_later
