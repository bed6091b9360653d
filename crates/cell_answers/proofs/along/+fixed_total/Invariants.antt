use Rattle.std.proofs.Common.{length}
use Rattle.cell_answers.proofs.along.+fixed_total.Given as goal

abbrev pub decreases-fixed_total : goal.decreases-fixed_total
decreases-fixed_total l = length l.tokens.now
