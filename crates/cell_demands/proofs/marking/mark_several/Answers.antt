use Rattle.split_lines.specs.Laid.{Demands}
use Rattle.cell_demands.proofs.TailSteps.{true_from}
use Rattle.cell_demands.proofs.marking.mark_several.Goals as goal

pub returns-in-Some-clause-noted : goal.returns-in-Some-clause-noted
returns-in-Some-clause-noted c =
    true_from c.args.lines.now c.args.begin c.args.marks.now c.mark_line.new.marks
    (Demands c.args.lines.now c.args.arguments.now c.args.from c.args.to) c.mark_line.ensures.marked
    c.args.tails.now c.requires.noted
