-- Teams of workers: fresh ones.
use Rattle.std.proofs.Common.{◌≡◌, ℕ, suc, ◌+◌, ◌*◌, inl, List, [], ◌∷◌, ◌++◌, map, All, refl, sym, ap, ◌∙◌, subst, arith}
use Rattle.std.proofs.lemmas.List.{map-append}
use Rattle.std.proofs.lemmas.List.Elements.{All-push}
use Rattle.rand_pcg.specs.Lcg.{Lcg, state_after}
use Rattle.random_orders.specs.Draws.{after_draws}
use Rattle.adp_model.specs.PosedProblem.{PosedProblem}
use Rattle.adp_model.specs.ProblemFields.{IsAdmissible}
use Rattle.memo_model.specs.Machines.{IsMachine}
use Rattle.memo_words.specs.declared.pass.Pass.{Pass}
use Rattle.memo_words.specs.declared.words.Words.{Words}
use Rattle.memo_words.specs.Passes.{IsPassOf, view_of, marks_of, plan_of, problem_of}
use Rattle.memo_table.specs.Meanings.{table_meaning, share_of}
use Rattle.memo_table.specs.declared.probe.Probe.{Probe}
use Rattle.cell_core.specs.MachineViews.{MachineView, IsFresh, IsNotedIn}
use Rattle.evaluators.specs.Posts.{Post, post, posts_of}
use Rattle.memo_words.specs.Layout.{slots_of}
use Rattle.evaluators.specs.Driving.{HasStepsOfFresh}
use Rattle.evaluators.specs.Steps.{AreStepsOf}
use Rattle.evaluators.specs.Playing.{HasKeptEntries}
use Rattle.evaluators.specs.Working.{TableWorker, IsReady, first_orders, post_of}

none_drawn : (orders : Lcg) → after_draws 0 orders ≡ orders
unfolding state_after
none_drawn orders = refl

-- a worker with a fresh machine, and a pass that has won nothing
pub ready_worker : (words : Words) (worker : TableWorker) (p : PosedProblem) (seed number : ℕ) → problem_of words ≡ p
    → IsAdmissible p → IsPassOf words worker.pass → IsFresh p (first_orders seed number) worker.machine
    → IsMachine table_meaning IsNotedIn worker.machine.machine worker.pass
    → HasStepsOfFresh table_meaning worker.machine.machine worker.pass → worker.seed ≡ seed → worker.number ≡ number
    → (view_of worker.pass).wins ≡ 0 → marks_of worker.pass ≡ [] → IsReady words worker
ready_worker words worker p seed number same admissible own fresh machine bound seed_is number_is wins none =
    let start : worker.machine.orders ≡ after_draws (4 * 0) (first_orders seed number) =
    fresh.orders_are ∙ sym (none_drawn (first_orders seed number)) in
    record {
      at_work = record {
        admissible = subst IsAdmissible (sym same) admissible;
        own = own;
        machine = machine;
        is_of = record {
          problem = fresh.problem ∙ sym same;
          orders = subst
              (λ (it : ℕ × ℕ × ℕ). worker.machine.orders ≡ after_draws (4 * it.0) (first_orders it.1 it.2))
              (λ i. (sym fresh.none_opened i, sym seed_is i, sym number_is i)) start;
        };
        wins = wins ∙ sym fresh.no_wins;
        steps = subst (AreStepsOf (slots_of (plan_of words)) worker.machine) (sym none)
            (record { moves = fresh.no_moves; wins = fresh.no_wins });
      };
      bound = bound;
    }

-- a fresh machine made no step
pub unmoved_when_fresh : (p : PosedProblem) (orders : Lcg) (machine : MachineView Probe) → IsFresh p orders machine
    → HasKeptEntries 0 machine
unmoved_when_fresh p orders machine fresh =
    record { steps = inl fresh.no_moves; few_wins = omega (arith, fresh.no_wins) }

-- the post of a worker with a fresh machine and this pass
pub served_post : (worker : TableWorker) (p : PosedProblem) (seed number : ℕ) (pass : Pass) (orders : Lcg)
    → IsFresh p orders worker.machine → worker.seed ≡ seed → worker.number ≡ number → worker.pass ≡ pass
    → post_of worker ≡ record { problem = p; seed = seed; number = number; share = share_of pass }
served_post worker p seed number pass orders fresh seed_is number_is pass_is =
    λ i. record {
      problem = fresh.problem i;
      seed = seed_is i;
      number = number_is i;
      share = share_of (pass_is i);
    }

-- its post, where the pass stands for one and none is left to be split off
pub post_is : (worker : TableWorker) (p : PosedProblem) (seed number : ℕ) (orders : Lcg)
    → IsFresh p orders worker.machine → worker.seed ≡ seed → worker.number ≡ number → (view_of worker.pass).weight ≡ 1
    → (view_of worker.pass).spare ≡ 0 → post_of worker ≡ post p seed number
post_is worker p seed number orders fresh seed_is number_is weight spare =
    λ i. record { problem = fresh.problem i; seed = seed_is i; number = number_is i; share = weight i ∷ spare i ∷ [] }

-- ---- a worker more

pub posts_pushed : {A : Type 0} (f : A → Post) (p : PosedProblem) (seed number : ℕ) (xs ys : List A) (x : A)
    → ys ≡ xs ++ x ∷ [] → map f xs ≡ posts_of p seed number → f x ≡ post p seed number → (next : ℕ)
    → number + 1 ≡ next → map f ys ≡ posts_of p seed next
posts_pushed f p seed number xs ys x e before here next n =
    let one : suc number ≡ next = omega (arith, n) in
    subst (λ k. map f ys ≡ posts_of p seed k) one
    (ap (map f) e ∙ map-append f xs (x ∷ []) ∙ (λ i. before i ++ here i ∷ []))

pub all_pushed : {A : Type 0} (P : A → Type 0) (xs ys : List A) (x : A) → ys ≡ xs ++ x ∷ [] → All P xs → P x → All P ys
all_pushed P xs ys x e all here = subst (All P) (sym e) (All-push P xs x all here)
