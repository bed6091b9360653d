use Rattle.suffix_cells.proofs.Numbers.{AreNumbered}
use Rattle.suffix_cells.proofs.visits.numbers_in.Given as goal

abbrev pub invariant-loop-number : goal.invariant-loop-number
invariant-loop-number l = AreNumbered l.order l.numbers.items l.number
