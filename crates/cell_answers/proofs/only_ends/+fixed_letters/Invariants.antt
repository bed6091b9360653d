use Rattle.std.proofs.Common.{length}
use Rattle.cell_answers.proofs.only_ends.+fixed_letters.Given as goal

abbrev pub decreases-fixed_letters : goal.decreases-fixed_letters
decreases-fixed_letters l = length l.arguments.now
