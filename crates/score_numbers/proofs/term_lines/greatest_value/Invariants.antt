use Rattle.std.proofs.Common.{◌*◌, map}
use Rattle.score_numbers.specs.Greatest.{IsGreatestOf}
use Rattle.score_numbers.proofs.Greatest.{HasBefore}
use Rattle.score_numbers.proofs.TermChunks.{AtNumber}
use Rattle.score_numbers.proofs.term_lines.greatest_value.Given as goal

-- the greatest at the first positions
abbrev pub invariant-loop-number : goal.invariant-loop-number
invariant-loop-number g l =
    IsGreatestOf (HasBefore (AtNumber g.N.Number.width l.line l.positions (map g.N.Number.value l.before) (map g.N.Number.value l.behind)) (l.number * 64)) l.greatest
