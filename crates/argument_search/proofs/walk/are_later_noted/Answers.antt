use Rattle.std.proofs.Common.{ℕ, List}
use Rattle.std.proofs.lemmas.Bool.{OnTrue_from}
use Rattle.argument_search.specs.Seeking.{AreNotedBehind}
use Rattle.argument_search.proofs.OnlySplits.{none_behind}
use Rattle.argument_search.proofs.walk.are_later_noted.Goals as goal

pub returns-then-has_one_split : goal.returns-then-has_one_split
returns-then-has_one_split g c =
    let Noted = g.N.NotedCells.is_noted c.args.noted.now in
    let one = c.if-has_one_split.ensures in
    OnTrue_from c.has_one_split.result
    ((turns : List ℕ) → AreNotedBehind c.args.lines.now Noted c.args.cell c.args.at.alternative turns c.args.at.cuts)
    (λ e turns. none_behind c.args.lines.now c.args.cell c.args.at.alternative c.kept.result.now c.kept.ensures
    one.token one.argument one.front one.others Noted turns c.args.at.cuts c.requires.viable)
