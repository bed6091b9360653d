use Rattle.std.proofs.Common.{length}
use Rattle.cell_answers.specs.TermScores.{first_values}
use Rattle.cell_answers.proofs.TermEnds.{HasScoreNowhere}
use Rattle.cell_answers.proofs.by_term.+ends_by_term.Given as goal

abbrev pub decreases-ends_by_term : goal.decreases-ends_by_term
decreases-ends_by_term l = length l.arguments.now

-- with no end before this one the term comes to the score
abbrev pub invariant-loop-end : goal.invariant-loop-end
invariant-loop-end l = HasScoreNowhere l.lines l.term (first_values l.first) l.argument l.others l.from l.to l.score l.end
