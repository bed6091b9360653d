use Rattle.std.proofs.Common.{ℕ, drop, Option, MatchOption, sym, subst}
use Rattle.split_lines.specs.Lines.{HasLine}
use Rattle.split_lines.proofs.LineFacts.{line_there, no_line_of_one}
use Rattle.split_lines.proofs.kept_rules.line_of.Goals as goal

pub returns-in_err-first : goal.returns-in_err-first
returns-in_err-first c =
    let all = c.args.arguments.now in
    let M : Option (ℕ × ℕ) → Type 0 = λ it. MatchOption it ((first between : ℕ) → HasLine (drop first all) between → ⊥) (λ line. HasLine (drop line.0 all) line.1) in
    subst M (sym c.from_residual-in_err-first.ensures) (no_line_of_one all c.in_ok-second.second c.in_ok-second.ensures c.in_err-first.ensures)

pub returns : goal.returns
returns c = line_there c.args.arguments.now c.in_ok-first.first c.in_ok-second.second c.in_ok-second.ensures c.in_ok-first.ensures
