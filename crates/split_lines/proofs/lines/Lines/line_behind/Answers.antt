use Rattle.std.proofs.Common.{◌++◌, List, drop, subst, arith}
use Rattle.adp_model.specs.declared.grammar.Arg.{Arg}
use Rattle.split_lines.specs.Lines.{IsLine}
use Rattle.split_lines.proofs.Fronts.{line_past_front, line_behind_front}
use Rattle.split_lines.proofs.lines.Lines.line_behind.Goals as goal
use Rattle.split_lines.proofs.lines.Lines.line_behind.Goals.{In_ok-line}

line_is : (c : In_ok-line) → IsLine c.args.self.now (drop c.in_ok-line.line.first (c.args.alternative.now.front.now ++ c.args.alternative.now.others.now)) c.in_ok-line.line
line_is c =
    let L : List Arg → Type 0 = λ arguments. IsLine c.args.self.now (drop c.in_ok-line.line.first arguments) c.in_ok-line.line in
    subst L c.requires.alternative.arguments c.in_ok-line.ensures

pub overflow_cast-result : goal.overflow_cast-result
overflow_cast-result c = omega (arith, c.requires.alternative.few)

pub overflow_sub-result : goal.overflow_sub-result
overflow_sub-result c =
    let at = (goal.at.overflow_sub-result c).In_ok-line in
    omega (arith, line_past_front c.args.self.now c.args.alternative.now.front.now c.args.alternative.now.others.now c.requires.alternative.in_front.fixed c.in_ok-line.line (line_is at))

pub returns : goal.returns
returns c =
    let at = (goal.at.returns c).In_ok-line in
    let it = line_behind_front c.args.self.now c.args.alternative.now.front.now c.args.alternative.now.others.now c.requires.alternative.in_front.fixed c.in_ok-line.line (line_is at) in
    record { has_line = it.has_line; middle = it.middle; tail = it.tail; before = it.before; behind = it.behind }
