use Rattle.std.proofs.Common.{length}
use Rattle.cell_answers.proofs.term_along.+are_idle.Given as goal

abbrev pub decreases-are_idle : goal.decreases-are_idle
decreases-are_idle l = length l.tokens.now
