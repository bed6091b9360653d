use Rattle.std.proofs.Common.{◌≡◌, true, All, sym, ap, ◌∙◌, subst}
use Rattle.adp_model.specs.PosedProblem.{PosedProblem}
use Rattle.evaluators.specs.Posts.{posts_of}
use Rattle.evaluators.specs.Joined.{IsJoined}
use Rattle.evaluators.specs.Runs.{IsFinished, ended_of}
use Rattle.evaluators.specs.Working.{TableWorker}
use Rattle.evaluators.specs.declared.gated.GatedWorker.{GatedWorker}
use Rattle.evaluators.proofs.Finishing.{all_ended, first_of_ended}
use Rattle.evaluators.proofs.in_turn.run_in_turn.Goals as goal

pub join_all-requires-clause-posts : goal.join_all-requires-clause-posts
join_all-requires-clause-posts g c =
    (c.in_ok-crew.ensures {u = tt}).posts
    ∙ ap (λ p. posts_of p c.args.seed c.args.workers)
    (sym ((c.in_ok-table.ensures {u = tt}).problem ∙ c.problem-problem.ensures ∙ sym (c.in_ok-shared.ensures {u = tt}).problem))

pub join_all-requires-clause-first : goal.join_all-requires-clause-first
join_all-requires-clause-first g c =
    let crew = c.in_ok-crew.crew in
    first_of_ended (λ (gated : GatedWorker TableWorker _). gated.worker) c.in_ok-table.table crew.items _ c.args.seed
    c.args.workers (c.in_ok-crew.ensures {u = tt}).done (c.in_ok-crew.ensures {u = tt}).posts c.requires.0

pub finish-requires-clause-joined : goal.finish-requires-clause-joined
finish-requires-clause-joined g c =
    subst (λ count. IsJoined c.in_ok-table.table c.args.seed count c.in_ok-left.left)
    (sym (c.in_ok-table.ensures {u = tt}).seats) (c.in_ok-left.ensures {u = tt}).joined

pub returns : goal.returns
returns g c = record {
  is_finished = subst (λ (p : PosedProblem). IsFinished p c.args.seed c.finish.result) c.problem-problem.ensures
      c.finish.ensures.finished;
  machines = c.finish.ensures.machines ∙ (c.in_ok-table.ensures {u = tt}).seats;
  have_ended = subst (All (λ machine. ended_of machine ≡ true))
      (sym (c.finish.ensures.kept ∙ (c.in_ok-left.ensures {u = tt}).kept))
      (all_ended (λ (gated : GatedWorker TableWorker _). gated.worker) c.in_ok-table.table c.in_ok-crew.crew.items
      (c.in_ok-crew.ensures {u = tt}).done);
}
