use Rattle.std.proofs.Common.{length}
use Rattle.cell_answers.specs.TermScores.{first_values}
use Rattle.score_numbers.specs.Greatest.{IsGreatestOf}
use Rattle.cell_answers.proofs.TermScores.{HasTermScoreBefore}
use Rattle.cell_answers.proofs.by_term.+greatest_by_term.Given as goal

abbrev pub decreases-greatest_by_term : goal.decreases-greatest_by_term
decreases-greatest_by_term l = length l.arguments.now

-- the greatest that the term comes to where the first argument ends before this position
abbrev pub invariant-loop-end : goal.invariant-loop-end
invariant-loop-end l = IsGreatestOf (HasTermScoreBefore l.lines l.term (first_values l.first) l.argument l.others l.from l.to l.end) l.greatest
