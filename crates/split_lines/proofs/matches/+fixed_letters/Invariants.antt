use Rattle.std.proofs.Common.{length}
use Rattle.split_lines.proofs.matches.+fixed_letters.Given as goal

abbrev pub decreases-fixed_letters : goal.decreases-fixed_letters
decreases-fixed_letters l = length l.tokens.now
