use Rattle.k_best.proofs.Walking.{IsWalked, settled, steps_left}
use Rattle.k_best.proofs.cell_list.meet_alternative.Given as goal

abbrev pub invariant-loop-cuts : goal.invariant-loop-cuts
invariant-loop-cuts l =
    IsWalked l.lines l.k l.cell (settled l.lines l.k) l.alt l.cuts.turns l.cuts.at l.initial.listed.items l.listed.items

abbrev pub decreases-loop-cuts : goal.decreases-loop-cuts
decreases-loop-cuts l = steps_left l.cell l.cuts.at
