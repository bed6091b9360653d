use Rattle.evaluators.proofs.gated.GatedWorker.TheSendSync as gated
use Rattle.evaluators.proofs.worker.Worker.TheSendSync as worker
use denote.Param.Send.{sendable}
use Rattle.std.proofs.Crossing.{crosses}
use Rattle.std.proofs.Common.{◌≡◌, true, map, All, sym, ap, ◌∙◌, subst}
use Rattle.adp_model.specs.PosedProblem.{PosedProblem}
use Rattle.memo_words.specs.Passes.{problem_of}
use Rattle.evaluators.specs.Posts.{posts_of}
use Rattle.evaluators.specs.Joined.{IsJoined}
use Rattle.evaluators.specs.Runs.{IsFinished, HasFirstEnded, ended_of}
use Rattle.evaluators.specs.Working.{TableWorker, post_of}
use Rattle.evaluators.specs.declared.gated.GatedWorker.{GatedWorker}
use Rattle.cell_core.proofs.SharedParts.{machine_send}
use Rattle.evaluators.proofs.SentProbes.{probe_send}
use Rattle.evaluators.proofs.Listed.{map_after, map_written_back}
use Rattle.evaluators.proofs.Finishing.{all_ended, first_of_ended}
use Rattle.evaluators.proofs.crew.run_sharing.Goals as goal

pub join_all-requires-clause-posts : goal.join_all-requires-clause-posts
join_all-requires-clause-posts g c =
    let crew = c.in_ok-crew.crew in
    let same = sym ((c.in_ok-table.ensures {u = tt}).problem ∙ (c.problem-problem.ensures ∙ c.deref.ensures)) in
    map_written_back (λ (gated : GatedWorker TableWorker _). post_of gated.worker) crew.items c.run_all.new.workers
    crew.len crew.ok.0
    (c.run_all.ensures.posts
    ∙ ap (map (λ (gated : GatedWorker TableWorker _). post_of gated.worker)) c.as_mut_slice.ensures.value)
    ∙ (c.in_ok-crew.ensures {u = tt}).posts ∙ ap (λ p. posts_of p c.args.seed c.args.workers) same

pub join_all-requires-clause-first : goal.join_all-requires-clause-first
join_all-requires-clause-first g c =
    let crew = c.in_ok-crew.crew in
    let left = c.run_all.new.workers in
    let posts = c.run_all.ensures.posts
    ∙ ap (map (λ (gated : GatedWorker TableWorker _). post_of gated.worker)) c.as_mut_slice.ensures.value in
    let machines = map_after (λ (gated : GatedWorker TableWorker _). gated.worker.machine)
    (λ (gated : GatedWorker TableWorker _). post_of gated.worker) crew.items left crew.len crew.ok.0 posts in
    subst HasFirstEnded (sym machines)
    (first_of_ended (λ (gated : GatedWorker TableWorker _). gated.worker) c.in_ok-table.table left
    (problem_of c.in_ok-table.table) c.args.seed c.args.workers c.run_all.ensures.done
    (posts ∙ (c.in_ok-crew.ensures {u = tt}).posts
    ∙ ap (λ p. posts_of p c.args.seed c.args.workers) (sym ((c.in_ok-table.ensures {u = tt}).problem ∙ (c.problem-problem.ensures ∙ c.deref.ensures))))
    c.requires.number.0)

pub returns-clause-finished : goal.returns-clause-finished
returns-clause-finished g c =
    subst (λ (p : PosedProblem). IsFinished p c.args.seed c.finish.result) (c.problem-problem.ensures ∙ c.deref.ensures) c.finish.ensures.finished

pub returns-clause-ended : goal.returns-clause-ended
returns-clause-ended g c =
    let crew = c.in_ok-crew.crew in
    let left = c.run_all.new.workers in
    let posts = c.run_all.ensures.posts
    ∙ ap (map (λ (gated : GatedWorker TableWorker _). post_of gated.worker)) c.as_mut_slice.ensures.value in
    let machines = map_after (λ (gated : GatedWorker TableWorker _). gated.worker.machine)
    (λ (gated : GatedWorker TableWorker _). post_of gated.worker) crew.items left crew.len crew.ok.0 posts in
    subst (All (λ machine. ended_of machine ≡ true))
    (sym (c.finish.ensures.kept ∙ (c.in_ok-left.ensures {u = tt}).kept ∙ machines))
    (all_ended (λ (gated : GatedWorker TableWorker _). gated.worker) c.in_ok-table.table left c.run_all.ensures.done)

pub finish-requires-clause-joined : goal.finish-requires-clause-joined
finish-requires-clause-joined g c =
    subst (λ count. IsJoined c.in_ok-table.table c.args.seed count c.in_ok-left.left)
    (sym (c.in_ok-table.ensures {u = tt}).seats) (c.in_ok-left.ensures {u = tt}).joined

pub run_all-requires-send-W : goal.run_all-requires-send-W
run_all-requires-send-W g c κs within =
    search (sendable, crosses, gated.the_send, worker.the_send, machine_send, probe_send) depth 60 fits 100000
