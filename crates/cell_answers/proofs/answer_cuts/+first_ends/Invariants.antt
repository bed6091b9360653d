use Rattle.std.proofs.Common.{length}
use Rattle.cell_answers.proofs.answer_cuts.+first_ends.Given as goal

abbrev pub decreases-first_ends : goal.decreases-first_ends
decreases-first_ends l = length l.arguments.now
