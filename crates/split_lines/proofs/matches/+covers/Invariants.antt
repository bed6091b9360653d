use Rattle.std.proofs.Common.{length}
use Rattle.split_lines.proofs.matches.+covers.Given as goal

abbrev pub decreases-covers : goal.decreases-covers
decreases-covers l = length l.tokens.now
