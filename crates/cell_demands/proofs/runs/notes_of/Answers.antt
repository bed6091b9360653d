use Rattle.std.proofs.Common.{sym, ◌∙◌}
use Rattle.cell_demands.proofs.TailNotes.{some_like, told_by_bits}
use Rattle.cell_demands.proofs.TailSteps.{owner_tail}
use Rattle.cell_demands.proofs.runs.notes_of.Goals as goal

pub returns : goal.returns
returns c =
    some_like c.notes_to.result _ _
    (λ notes true_to p marks owner all.
    told_by_bits p marks c.in_ok-tail.tail c.args.arguments.now c.args.to notes.now
    (owner_tail p c.args.owner c.args.arguments.now c.in_ok-tail.tail (sym c.in_ok-tail.was ∙ c.tail_of.ensures) owner)
    (true_to p marks all))
    c.notes_to.ensures
