use Rattle.k_best.specs.Growing.{IsOpened}
use Rattle.k_best.proofs.opening.meet_next.Given as goal

abbrev pub invariant-loop-number : goal.invariant-loop-number
invariant-loop-number l =
    IsOpened l.basis.lines.now l.basis.k l.fn.cell l.first l.number l.initial.found.items l.found.items
