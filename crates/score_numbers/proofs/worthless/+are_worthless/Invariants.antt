use Rattle.std.proofs.Common.{length}
use Rattle.score_numbers.proofs.worthless.+are_worthless.Given as goal

abbrev pub decreases-are_worthless : goal.decreases-are_worthless
decreases-are_worthless l = length l.tokens.now
