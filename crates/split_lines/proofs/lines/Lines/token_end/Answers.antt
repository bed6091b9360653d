use Rattle.std.proofs.Common.{ℕ, Option, Some, None, sym, subst, arith}
use Rattle.adp_model.specs.PosedProblem.{PosedProblem}
use Rattle.split_lines.specs.Ends.{IsEndTold}
use Rattle.split_lines.proofs.lines.Lines.token_end.Goals as goal
use Rattle.split_lines.proofs.lines.Lines.token_end.Goals.{In_ok-end}

told : (c : In_ok-end) → IsEndTold c.args.self.now c.args.token.now c.args.from c.args.last (Some c.in_ok-end.end)
told c =
    let T : PosedProblem → Option ℕ → Type 0 = λ p found. IsEndTold p c.args.token.now c.args.from c.args.last found in
    subst (λ p. T p (Some c.in_ok-end.end)) c.self.view_is (subst (T c.self.inside.tables) c.in_ok-end.was c.token_end.ensures)

pub returns-in_err-end : goal.returns-in_err-end
returns-in_err-end c =
    let T : PosedProblem → Option ℕ → Type 0 = λ p found. IsEndTold p c.args.token.now c.args.from c.args.last found in
    subst (T c.args.self.now) (sym c.from_residual.ensures) (subst (λ p. T p None) c.self.view_is (subst (T c.self.inside.tables) c.in_err-end.was c.token_end.ensures))

pub overflow_cast-result : goal.overflow_cast-result
overflow_cast-result c =
    let within = ((told c c.in_ok-end.end).0 (λ i. Some c.in_ok-end.end)).0 in
    omega (arith, within, c.ranges.last.fits)

pub returns : goal.returns
returns c = told c
