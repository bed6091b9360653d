-- A team with one worker more, whose machine is fresh.
use Rattle.std.specs.Prelude.{◌≡◌, ℕ, List, [], ◌∷◌, ◌++◌}
use Rattle.adp_model.specs.PosedProblem.{PosedProblem}
use Rattle.memo_model.specs.Machines.{IsMachine}
use Rattle.memo_words.specs.declared.pass.Pass.{Pass}
use Rattle.memo_table.specs.Meanings.{table_meaning}
use Rattle.cell_core.specs.MachineViews.{IsFresh, IsNotedIn}
use Rattle.evaluators.specs.Driving.{HasStepsOfFresh}
use Rattle.evaluators.specs.Working.{TableWorker, first_orders}

-- the worker has this pass, seed and number, and its machine is of the problem
pub record IsHired {A : Type 0} (worker_of : A → TableWorker) (p : PosedProblem) (seed number : ℕ) (has : Pass)
    (old new : List A) : Type 0 where
  pub one : A
  pub grown : new ≡ old ++ one ∷ []
  pub fresh : IsFresh p (first_orders seed number) (worker_of one).machine
  pub machine : (other : Pass) → IsMachine table_meaning IsNotedIn (worker_of one).machine.machine other
  pub bound : (other : Pass) → HasStepsOfFresh table_meaning (worker_of one).machine.machine other
  pub pass : (worker_of one).pass ≡ has
  pub number_is : (worker_of one).number ≡ number
  pub seed_is : (worker_of one).seed ≡ seed
