use Rattle.cell_demands.specs.TailNotes.{HaveNoNotes}
use Rattle.cell_demands.proofs.tails.empty_ends.Given as goal

abbrev pub invariant-ends : goal.invariant-ends
invariant-ends l = HaveNoNotes l.ends.items
