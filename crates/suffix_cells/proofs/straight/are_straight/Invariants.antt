use Rattle.std.proofs.Common.{ℕ, ◌<◌, length}
use Rattle.adp_model.specs.Parts.{alternatives_of}
use Rattle.suffix_cells.specs.Straight.{AreStraightUpTo}
use Rattle.suffix_cells.proofs.straight.are_straight.Given as goal

abbrev pub invariant-loop-rule : goal.invariant-loop-rule
invariant-loop-rule l = (rule : ℕ) → rule < l.rule → AreStraightUpTo l.problem rule (length (alternatives_of l.problem.grammar rule))
