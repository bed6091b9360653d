-- The numbers that were not written yet are all that the line lacks.
use Rattle.std.proofs.Common.{◌≡◌, ◌++◌, drop}
use Rattle.adp_model.specs.Report.{spaced}
use Rattle.report.proofs.wins_line.push_wins.Given as goal

abbrev pub invariant-loop-number : goal.invariant-loop-number
invariant-loop-number l = l.out.items ++ spaced (drop l.number-index l.wins) ≡ l.initial.out.items ++ spaced l.wins
