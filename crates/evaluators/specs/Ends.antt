-- What evaluators leave that have run to their ends.
use Rattle.std.specs.Prelude.{◌≡◌, ℕ, vec_len}
use Rattle.adp_model.specs.PosedProblem.{PosedProblem}
use Rattle.evaluators.specs.Runs.{IsFinished, HaveAllEnded}
use Rattle.evaluators.specs.declared.finished.Finished.{Finished}

-- so many evaluators have run for this problem under this seed, each of them to its end
pub record IsRunToEnd (workers seed : ℕ) (p : PosedProblem) (finished : Finished) : Type 0 where
  pub is_finished : IsFinished p seed finished
  pub machines : vec_len finished.machines ≡ workers
  pub have_ended : HaveAllEnded finished
