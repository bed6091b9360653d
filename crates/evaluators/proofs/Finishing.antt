-- The machines of workers, the first of which has ended, or all.
use Rattle.std.proofs.Common.{◌≡◌, ℕ, ◌<◌, ◌≤◌, true, List, [], ◌∷◌, length, map, All, arith}
use Rattle.std.proofs.lemmas.List.{length-map}
use Rattle.std.proofs.lemmas.List.Elements.{All-head, All-map}
use Rattle.adp_model.specs.PosedProblem.{PosedProblem}
use Rattle.memo_words.specs.declared.words.Words.{Words}
use Rattle.memo_table.specs.declared.probe.Probe.{Probe}
use Rattle.cell_core.specs.MachineViews.{MachineView}
use Rattle.evaluators.specs.Posts.{posts_of}
use Rattle.evaluators.specs.Runs.{HasFirstEnded, ended_of}
use Rattle.evaluators.specs.Working.{TableWorker, IsDone, post_of}
use Rattle.evaluators.proofs.Joining.{posts_length}

pub all_ended : {A : Type 0} (worker_of : A → TableWorker) (words : Words) (workers : List A)
    → All (λ one. IsDone words (worker_of one)) workers
    → All (λ machine. ended_of machine ≡ true) (map (λ one. (worker_of one).machine) workers)
all_ended worker_of words workers done =
    All-map (λ machine. ended_of machine ≡ true) (λ one. (worker_of one).machine) workers
    (λ k d inside. (done k d inside).ended)

first_ended : (machines : List (MachineView Probe)) → All (λ machine. ended_of machine ≡ true) machines
    → 0 < length machines → HasFirstEnded machines
first_ended [] ended some = absurd (omega (arith, some))
first_ended (machine ∷ machines) ended some = All-head (λ one. ended_of one ≡ true) machine machines ended

pub first_of_ended : {A : Type 0} (worker_of : A → TableWorker) (words : Words) (workers : List A) (p : PosedProblem)
    (seed count : ℕ) → All (λ one. IsDone words (worker_of one)) workers
    → map (λ one. post_of (worker_of one)) workers ≡ posts_of p seed count → 1 ≤ count
    → HasFirstEnded (map (λ one. (worker_of one).machine) workers)
first_of_ended worker_of words workers p seed count done posts some =
    let counted = posts_length (λ one. post_of (worker_of one)) p seed count workers posts in
    let mapped = length-map workers (λ one. (worker_of one).machine) in
    first_ended (map (λ one. (worker_of one).machine) workers) (all_ended worker_of words workers done)
    (omega (arith, counted, mapped, some))
