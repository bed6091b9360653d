use Rattle.std.proofs.Common.{ℕ, sym, subst}
use Rattle.adp_main.specs.Seconds.{AreSecondRows}
use Rattle.adp_main.proofs.limits.JobRows.new.Goals as goal

pub returns-clause-rows : goal.returns-clause-rows
returns-clause-rows c = record {
  of_first = c.in_ok-first.ensures.rows;
  of_second = subst (λ (n : ℕ). AreSecondRows c.args.job.now.second n c.in_ok-second.second)
      (sym c.in_ok-first.ensures.longest) c.in_ok-second.ensures;
}
