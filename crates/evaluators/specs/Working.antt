-- What holds of a worker before and after its work.
use Rattle.std.specs.Prelude.{◌≡◌, ℕ, ◌*◌, true}
use Rattle.rand_pcg.specs.Lcg.{Lcg, started, increment_of}
use Rattle.rand_pcg.specs.Pcg.{multiplier_64}
use Rattle.random_orders.specs.Draws.{after_draws}
use Rattle.adp_model.specs.PosedProblem.{PosedProblem}
use Rattle.adp_model.specs.ProblemFields.{IsAdmissible}
use Rattle.memo_model.specs.Machines.{IsMachine}
use Rattle.memo_words.specs.declared.words.Words.{Words}
use Rattle.memo_words.specs.Passes.{IsPassOf, view_of, marks_of, plan_of, problem_of}
use Rattle.memo_table.specs.declared.probe.Probe.{Probe}
use Rattle.memo_table.specs.Meanings.{table_meaning, share_of}
use Rattle.cell_core.specs.MachineViews.{MachineView, IsNotedIn}
use Rattle.evaluators.specs.Posts.{Post}
use Rattle.memo_words.specs.Layout.{slots_of}
use Rattle.evaluators.specs.Driving.{HasStepsOfFresh}
use Rattle.evaluators.specs.Steps.{AreStepsOf}
use Rattle.evaluators.specs.declared.worker.Worker.{Worker}

-- a worker whose machine works over the table
abbrev pub TableWorker : Type 0
TableWorker = Worker (MachineView Probe)

-- the orders with which a worker begins
abbrev pub first_orders : ℕ → ℕ → Lcg
first_orders seed number = started 64 multiplier_64 seed (increment_of 64 number)

-- the machine is of the problem, and its orders are those of the seed and the number after four draws for each frame
-- that it opened
pub record IsOf (p : PosedProblem) (seed number : ℕ) (machine : MachineView Probe) : Type 0 where
  pub problem : machine.machine.problem ≡ p
  pub orders : machine.orders ≡ after_draws (4 * machine.machine.opened) (first_orders seed number)

abbrev pub post_of : TableWorker → Post
post_of worker = record {
  problem = worker.machine.machine.problem;
  seed = worker.seed;
  number = worker.number;
  share = share_of worker.pass;
}

-- the worker's pass is of the words, its machine is of their problem, which was admitted, and sound for the pass, their
-- wins are the same, and the pass has the machine's steps
pub record IsAtWork (words : Words) (worker : TableWorker) : Type 0 where
  pub admissible : IsAdmissible (problem_of words)
  pub own : IsPassOf words worker.pass
  pub machine : IsMachine table_meaning IsNotedIn worker.machine.machine worker.pass
  pub is_of : IsOf (problem_of words) worker.seed worker.number worker.machine
  pub wins : (view_of worker.pass).wins ≡ worker.machine.machine.wins
  pub steps : AreStepsOf (slots_of (plan_of words)) worker.machine (marks_of worker.pass)

-- before its work it has at most the steps of a fresh machine left
pub record IsReady (words : Words) (worker : TableWorker) : Type 0 where
  pub at_work : IsAtWork words worker
  pub bound : HasStepsOfFresh table_meaning worker.machine.machine worker.pass

-- after it its machine has ended
pub record IsDone (words : Words) (worker : TableWorker) : Type 0 where
  pub at_work : IsAtWork words worker
  pub ended : worker.machine.machine.ended ≡ true
