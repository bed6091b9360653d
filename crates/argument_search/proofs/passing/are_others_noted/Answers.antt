use Rattle.std.proofs.Common.{◌≡◌, List, [], true, sym, subst}
use Rattle.std.proofs.lemmas.Bool.{OnTrue_at, OnTrue_from}
use Rattle.adp_model.specs.declared.grammar.Arg.{Arg}
use Rattle.argument_search.specs.Skipping.{AreNotedOn}
use Rattle.argument_search.proofs.Demanded.{noted_last}
use Rattle.argument_search.proofs.NotedArguments.{told_of_laid}
use Rattle.argument_search.proofs.passing.are_others_noted.Goals as goal

pub returns-in-Front : goal.returns-in-Front
returns-in-Front g c =
    let none : c.args.alternative.now.others.now ≡ [] = c.in-Front.ensures in
    let N : List Arg → Type 0 = λ arguments. AreNotedOn c.args.lines.now (g.N.NotedCells.is_noted c.args.noted.now) arguments c.args.from c.args.cell.to in
    subst N (sym none) (λ child demands. absurd demands)

pub returns-in-Last : goal.returns-in-Last
returns-in-Last g c =
    OnTrue_from _ _
    (λ e.
    noted_last c.args.lines.now (g.N.NotedCells.is_noted c.args.noted.now) c.args.alternative.now.others.now
    c.in-Last.argument.now c.args.from c.args.cell.to c.in-Last.ensures (OnTrue_at e c.is_noted.ensures))

pub returns-in-Some : goal.returns-in-Some
returns-in-Some g c =
    told_of_laid c.args.lines.now (g.N.NotedCells.is_noted c.args.noted.now) c.args.alternative.now.others.now true
    c.args.from c.args.cell.to c.is_line_noted.result c.is_line_noted.ensures

pub returns-in-Whole : goal.returns-in-Whole
returns-in-Whole g c =
    told_of_laid c.args.lines.now (g.N.NotedCells.is_noted c.args.noted.now) c.args.alternative.now.others.now true
    c.args.from c.args.cell.to c.are_arguments_noted.result c.are_arguments_noted.ensures
