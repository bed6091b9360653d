use Rattle.std.proofs.Common.{◌≡◌}
use Rattle.table_certificate.specs.Claims.{claimed}
use Rattle.table_certificate.specs.KnownScores.{AreSaidBest}
use Rattle.table_certificate.proofs.known_scores.noted_said_best.Given as goal

abbrev pub invariant-loop-cell : goal.invariant-loop-cell
invariant-loop-cell l = (l.said_best.problem ≡ l.solved) × AreSaidBest l.solved (claimed l.claims) l.said_best
