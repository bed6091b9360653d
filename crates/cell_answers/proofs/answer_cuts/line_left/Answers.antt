use Rattle.std.proofs.Common.{◌≡◌, ◌+◌, ◌-◌, List, drop, sym, ap, subst, ◌∙◌, arith}
use Rattle.std.specs.Prelude.{IfSome}
use Rattle.std.proofs.lemmas.List.{drop-drop}
use Rattle.adp_model.specs.declared.grammar.Arg.{Arg}
use Rattle.split_lines.specs.Lines.{IsLine}
use Rattle.cell_answers.proofs.answer_cuts.line_left.Goals as goal

pub returns-else-ahead-eq0 : goal.returns-else-ahead-eq0
returns-else-ahead-eq0 c p arguments has =
    let some = c.if-ahead-eq0.false in
    let one : c.args.ahead ≡ 1 + (c.args.ahead - 1) = omega (arith, some) in
    let same : drop c.args.ahead arguments ≡ drop (c.args.ahead - 1) (drop 1 arguments) = ap (λ n. drop n arguments) one
    ∙ sym (drop-drop (c.args.ahead - 1) 1 arguments) in
    let L : List Arg → Type 0 = λ them. IfSome c.args.line (λ it. IsLine p them it) in
    subst L same has
