use Rattle.std.proofs.Common.{◌++◌, sym, ap, ◌∙◌, arith}
use Rattle.std.proofs.lemmas.Grind.{common_steps}
use Rattle.report.proofs.Children.{comma_before-none, comma_before-some}
use Rattle.report.proofs.tree_lines.push_comma.Goals as goal

pub returns-then-further-eq0 : goal.returns-then-further-eq0
returns-then-further-eq0 c = λ from.
    grind (arith, common_steps, comma_before-none c.args.arguments.now from c.args.ends.now (omega arith))

pub returns : goal.returns
returns c = λ from.
    c.in_ok-push.ensures.items
    ∙ ap (λ x. c.args.pieces.now.items ++ x) (sym (comma_before-some c.args.arguments.now from c.args.ends.now (omega arith)))
