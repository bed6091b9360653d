use Rattle.std.proofs.Common.{◌<◌, ℕ, get_or}
use Rattle.cell_answers.specs.Through.{HasLineTotal}
use Rattle.cell_answers.proofs.answer_cuts.first_valued.Given as goal

-- at the first positions the total is another one
abbrev pub invariant-loop-position : goal.invariant-loop-position
invariant-loop-position l =
    (number : ℕ) → number < l.position-index
    → HasLineTotal l.lines l.line (get_or l.line.boundary.positions.now number 0) l.total → ⊥
