use Rattle.std.proofs.Common.{ℕ, ◌+◌, ◌-◌, ◌^◌, ◌≤◌, List, length}
use Rattle.adp_model.specs.Demand.{IsDemandedCount}
use Rattle.adp_model.specs.SplitArguments.{SplitArgument, AreRuleArguments}
use Rattle.memo_model.specs.StepBound.{step_bound, remaining_bound}
use Rattle.evaluators.specs.Driving.{HasGoneOn}
use Rattle.evaluators.specs.Watching.{IsToldOn}
use Rattle.evaluators.proofs.driving.drive_counted.Given as goal

abbrev pub invariant-steps : goal.invariant-steps
invariant-steps g l = record {
  on : HasGoneOn g.M.Memo.meaning (g.M.Memo.is_of l.memo) g.M.Memo.goes_on l.fn.machine l.machine l.fn.pass l.pass;
  left : (m : ℕ) (arguments : List SplitArgument) → IsDemandedCount l.fn.machine.machine.problem m
      → AreRuleArguments l.fn.machine.machine.problem arguments
      → remaining_bound g.M.Memo.meaning m arguments l.machine.machine l.pass + l.counter
      ≤ step_bound m (length arguments);
  told : IsToldOn l.number (g.W.Watcher.told l.fn.watcher) (g.W.Watcher.told l.watcher) l.fn.machine.machine.moves
      l.machine.machine.moves;
}

abbrev pub decreases-steps : goal.decreases-steps
decreases-steps g l = 2 ^ 128 - l.counter
