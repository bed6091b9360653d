use Rattle.std.proofs.Common.{◌≡◌, List, [], ◌∷◌, length, refl, sym, subst}
use Rattle.std.specs.List.{AllByRecursion}
use Rattle.adp_model.specs.declared.cell.Cell.{Cell}
use Rattle.adp_model.specs.declared.grammar.Arg.{Arg}
use Rattle.adp_model.specs.Cells.{IsCounted}
use Rattle.adp_model.specs.WellFormed.{IsKnown}
use Rattle.split_lines.specs.Laid.{Demands}
use Rattle.cell_tables.specs.Marks.{AreMarkedFrom}
use Rattle.cell_demands.proofs.MarkSteps.{none_marked}
use Rattle.cell_demands.proofs.TailSteps.{true_from}
use Rattle.cell_demands.proofs.marking.mark_others.Goals as goal
use Rattle.cell_demands.proofs.marking.mark_others.Goals.{In-Last}

-- the argument is the only one
one : (c : In-Last) → c.args.alternative.now.others.now ≡ c.in-Last.argument.now ∷ []
one c = c.in-Last.ensures

pub mark_last-requires-clause-known : goal.mark_last-requires-clause-known
mark_last-requires-clause-known c =
    let at = (goal.at.mark_last-requires-clause-known c).In-Last in
    let K : List Arg → Type 0 = AllByRecursion (IsKnown c.args.lines.now.grammar) in
    (subst K (one at) c.requires.alternative.others_known).0

pub mark_last-requires-clause-counted : goal.mark_last-requires-clause-counted
mark_last-requires-clause-counted c =
    let at = (goal.at.mark_last-requires-clause-counted c).In-Last in
    let D : List Arg → Type 0 = λ arguments. (child : Cell) → Demands c.args.lines.now arguments c.args.from c.args.cell.to child
    → IsCounted c.args.lines.now.grammar (length c.args.lines.now.word) child in
    subst D (one at) c.requires.counted

pub returns-in-Last-clause-marked : goal.returns-in-Last-clause-marked
returns-in-Last-clause-marked c =
    let at = (goal.at.returns-in-Last-clause-marked c).In-Last in
    let M : List Arg → Type 0 = λ arguments. AreMarkedFrom c.args.cell.from c.args.marks.now c.mark_last.new.marks
    (Demands c.args.lines.now arguments c.args.from c.args.cell.to) in
    subst M (sym (one at)) c.mark_last.ensures.marked

pub returns-in-Front-clause-marked : goal.returns-in-Front-clause-marked
returns-in-Front-clause-marked c =
    let none : c.args.alternative.now.others.now ≡ [] = c.in-Front.ensures in
    let M : List Arg → Type 0 = λ arguments. AreMarkedFrom c.args.cell.from c.args.marks.now c.args.marks.now
    (Demands c.args.lines.now arguments c.args.from c.args.cell.to) in
    subst M (sym none) (none_marked c.args.cell.from c.args.marks.now (Demands c.args.lines.now [] c.args.from c.args.cell.to) (λ cell demands. demands))

pub returns-in-Last-clause-noted : goal.returns-in-Last-clause-noted
returns-in-Last-clause-noted c =
    true_from c.args.lines.now c.args.cell.from c.args.marks.now c.mark_last.new.marks
    (Demands c.args.lines.now (c.in-Last.argument.now ∷ []) c.args.from c.args.cell.to) c.mark_last.ensures.marked
    c.args.tails.now c.requires.noted

pub mark_several-requires-clause-owner : goal.mark_several-requires-clause-owner
mark_several-requires-clause-owner c = record {
  before = c.args.alternative.now.front.now;
  arguments_are = c.requires.alternative.arguments;
  count = refl;
}
