use Rattle.suffix_cells.specs.Straight.{AreStraightUpTo}
use Rattle.suffix_cells.proofs.straight.is_straight_rule.Given as goal

abbrev pub invariant-loop-alt : goal.invariant-loop-alt
invariant-loop-alt l = AreStraightUpTo l.problem l.rule l.alt
