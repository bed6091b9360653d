use Rattle.std.proofs.Common.{ℕ, Option, Some, None, sym, subst, arith}
use Rattle.std.specs.Prelude.{MatchOption}
use Rattle.adp_model.specs.PosedProblem.{PosedProblem}
use Rattle.split_lines.specs.Ways.{IsClosed, IsOpening}
use Rattle.split_lines.proofs.lines.Lines.opening.Goals as goal
use Rattle.split_lines.proofs.lines.Lines.opening.Goals.{In_ok-end}

told : (c : In_ok-end) → IsOpening c.args.self.now c.args.alternative.now c.args.cell c.in_ok-end.end
told c =
    let T : PosedProblem → Option ℕ → Type 0 = λ p found. MatchOption found (IsClosed p c.args.alternative.now c.args.cell) (IsOpening p c.args.alternative.now c.args.cell) in
    subst (λ p. T p (Some c.in_ok-end.end)) c.self.view_is (subst (T c.self.inside.tables) c.in_ok-end.was c.opening.ensures)

pub returns-in_err-end : goal.returns-in_err-end
returns-in_err-end c =
    let T : PosedProblem → Option ℕ → Type 0 = λ p found. MatchOption found (IsClosed p c.args.alternative.now c.args.cell) (IsOpening p c.args.alternative.now c.args.cell) in
    subst (T c.args.self.now) (sym c.from_residual.ensures) (subst (λ p. T p None) c.self.view_is (subst (T c.self.inside.tables) c.in_err-end.was c.opening.ensures))

pub overflow_cast-result : goal.overflow_cast-result
overflow_cast-result c =
    let within = (told c).within in
    omega (arith, within)

pub returns : goal.returns
returns c = told c
