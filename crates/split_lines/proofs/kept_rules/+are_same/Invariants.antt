use Rattle.std.proofs.Common.{length}
use Rattle.split_lines.proofs.kept_rules.+are_same.Given as goal

abbrev pub decreases-are_same : goal.decreases-are_same
decreases-are_same l = length l.tokens.now
