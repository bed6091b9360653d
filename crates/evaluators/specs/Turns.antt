-- Workers that run one after the other.
use Rattle.std.specs.Prelude.{◌≡◌, ℕ, List, [], ◌∷◌, ◌++◌}
use Rattle.adp_model.specs.PosedProblem.{PosedProblem}
use Rattle.memo_words.specs.declared.pass.Pass.{Pass}
use Rattle.memo_words.specs.declared.words.Words.{Words}
use Rattle.memo_table.specs.Meanings.{share_of}
use Rattle.evaluators.specs.Working.{TableWorker, IsDone, post_of}

-- a list has one worker more, which has run to its end: the one of this number, with what the pass stood for
pub record HasServed {A : Type 0} (worker_of : A → TableWorker) (words : Words) (p : PosedProblem) (seed number : ℕ)
    (had : Pass) (old new : List A) : Type 0 where
  pub one : A
  pub grown : new ≡ old ++ one ∷ []
  pub done : IsDone words (worker_of one)
  pub post : post_of (worker_of one) ≡ record { problem = p; seed = seed; number = number; share = share_of had }
