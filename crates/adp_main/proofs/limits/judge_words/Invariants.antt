-- The first words keep the limits, as do words of lengths for which a bound is kept, and their own bounds are kept.
use Rattle.std.proofs.Common.{◌≡◌, ℕ, ◌+◌, ◌<◌, [], length, get_or, take}
use Rattle.std.specs.List.{AllByRecursion}
use Rattle.adp_main.specs.KeptLengths.{AreKeptLengths, HasKept}
use Rattle.verdicts.specs.Posed.{posed_words}
use Rattle.adp_main.specs.Reporting.{IsAdmissibleIn}
use Rattle.adp_main.proofs.limits.judge_words.Given as goal

abbrev pub invariant-loop-place : goal.invariant-loop-place
invariant-loop-place l = record {
  judged : AllByRecursion (IsAdmissibleIn l.command)
      (posed_words l.job.checked.grammar l.job.checked.algebra (take l.place l.judged));
  each : length l.compiled.items ≡ l.rows.first.longest + 1;
  lengths : AreKeptLengths l.command.second l.job.checked.grammar l.job.checked.algebra l.compiled.items;
  bounds : (at : ℕ) → at < l.place → HasKept l.command.second l.job.checked.grammar l.job.checked.algebra
      l.compiled.items (length (get_or l.judged at []));
}
