use Rattle.std.proofs.Common.{length}
use Rattle.table_certificate.proofs.magnitudes.+weighted_total.Given as goal

abbrev pub decreases-weighted_total : goal.decreases-weighted_total
decreases-weighted_total l = length l.factors.now
