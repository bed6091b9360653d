use Rattle.std.proofs.Common.{◌≡◌, ℕ, List, length, map, All, sym, ap, ◌∙◌, subst, arith, rules}
use Rattle.std.specs.Arc.{arc_value}
use Rattle.memo_words.specs.Passes.{problem_of}
use Rattle.evaluators.specs.Posts.{posts_of}
use Rattle.evaluators.specs.Runs.{HasFirstEnded, moves_of, ended_of}
use Rattle.evaluators.specs.Working.{TableWorker, IsAtWork, post_of}
use Rattle.evaluators.specs.Schedules.{AreScheduled}
use Rattle.evaluators.specs.Playing.{HasKeptEntries, HaveKeptSchedule}
use Rattle.evaluators.specs.Watching.{HasToldMoves, HaveToldMoves}
use Rattle.evaluators.specs.declared.gated.GatedWorker.{GatedWorker}
use Rattle.evaluators.proofs.Listed.{map_after, map_written_back, written_back}
use Rattle.evaluators.proofs.Joining.{posts_length}
use Rattle.evaluators.proofs.Playing.{first_of_schedule}
use Rattle.evaluators.proofs.Watching.{all_mapped}
use Rattle.evaluators.proofs.schedule.watch_schedule.Goals as goal

pub play-requires-clause-some : goal.play-requires-clause-some
play-requires-clause-some g c =
    let items = c.in_ok-crew.crew.items in
    let counted = posts_length (λ (gated : GatedWorker TableWorker _). post_of gated.worker)
    (arc_value c.in_ok-prepared.prepared) c.args.seed c.args.machines items (c.in_ok-crew.ensures {u = tt}).posts in
    let same : length c.as_mut_slice.result.now ≡ length items = ap length c.as_mut_slice.ensures.value in
    omega (arith, counted, same, c.requires.number.0)

pub join_all-requires-clause-first : goal.join_all-requires-clause-first
join_all-requires-clause-first g c =
    let crew = c.in_ok-crew.crew in
    let left = c.play.new.workers in
    let posts = c.play.ensures.posts
    ∙ ap (map (λ (gated : GatedWorker TableWorker _). post_of gated.worker)) c.as_mut_slice.ensures.value in
    let machines = map_after (λ (gated : GatedWorker TableWorker _). gated.worker.machine)
    (λ (gated : GatedWorker TableWorker _). post_of gated.worker) crew.items left crew.len crew.ok.0 posts in
    subst HasFirstEnded (sym machines)
    (first_of_schedule c.args.schedule.now (map (λ (gated : GatedWorker TableWorker _). gated.worker.machine) left)
    c.play.ensures.scheduled)

pub join_all-requires-clause-posts : goal.join_all-requires-clause-posts
join_all-requires-clause-posts g c =
    let crew = c.in_ok-crew.crew in
    let same : arc_value c.in_ok-prepared.prepared ≡ problem_of c.in_ok-table.table = search rules in
    map_written_back (λ (gated : GatedWorker TableWorker _). post_of gated.worker) crew.items c.play.new.workers
    crew.len crew.ok.0
    (c.play.ensures.posts
    ∙ ap (map (λ (gated : GatedWorker TableWorker _). post_of gated.worker)) c.as_mut_slice.ensures.value)
    ∙ (c.in_ok-crew.ensures {u = tt}).posts ∙ ap (λ p. posts_of p c.args.seed c.args.machines) same

pub returns-clause-schedule : goal.returns-clause-schedule
returns-clause-schedule g c =
    let crew = c.in_ok-crew.crew in
    let left = c.play.new.workers in
    let finished = c.finish.result in
    let posts = c.play.ensures.posts
    ∙ ap (map (λ (gated : GatedWorker TableWorker _). post_of gated.worker)) c.as_mut_slice.ensures.value in
    let machines = map_after (λ (gated : GatedWorker TableWorker _). gated.worker.machine)
    (λ (gated : GatedWorker TableWorker _). post_of gated.worker) crew.items left crew.len crew.ok.0 posts in
    subst (λ (wins : List ℕ). AreScheduled c.args.schedule.now wins (map moves_of finished.machines.items)
    (map ended_of finished.machines.items))
    (sym c.finish.ensures.finished.wins_are)
    (subst (HaveKeptSchedule c.args.schedule.now)
    (sym (c.finish.ensures.kept ∙ (c.in_ok-left.ensures {u = tt}).kept ∙ machines)) c.play.ensures.scheduled)

pub returns-clause-told : goal.returns-clause-told
returns-clause-told g c =
    let crew = c.in_ok-crew.crew in
    let left = c.play.new.workers in
    let told = g.W.Watcher.told c.play.new.watcher in
    let posts = c.play.ensures.posts
    ∙ ap (map (λ (gated : GatedWorker TableWorker _). post_of gated.worker)) c.as_mut_slice.ensures.value in
    let machines = map_after (λ (gated : GatedWorker TableWorker _). gated.worker.machine)
    (λ (gated : GatedWorker TableWorker _). post_of gated.worker) crew.items left crew.len crew.ok.0 posts in
    subst (HaveToldMoves told) (sym (c.finish.ensures.kept ∙ (c.in_ok-left.ensures {u = tt}).kept ∙ machines))
    (all_mapped (λ number machine. HasToldMoves told number (moves_of machine))
    (λ (gated : GatedWorker TableWorker _). gated.worker.machine) 0 left c.play.ensures.told)

pub join_all-requires-clause-at_work : goal.join_all-requires-clause-at_work
join_all-requires-clause-at_work g c =
    let crew = c.in_ok-crew.crew in
    let left = c.play.new.workers in
    let posts = c.play.ensures.posts
    ∙ ap (map (λ (gated : GatedWorker TableWorker _). post_of gated.worker)) c.as_mut_slice.ensures.value in
    subst (All (λ (gated : GatedWorker TableWorker _). IsAtWork c.in_ok-table.table gated.worker))
    (sym (written_back (λ (gated : GatedWorker TableWorker _). post_of gated.worker) crew.items left crew.len crew.ok.0
    posts)) c.play.ensures.at_work

pub play-requires-clause-unmoved : goal.play-requires-clause-unmoved
play-requires-clause-unmoved g c =
    subst (All (λ (gated : GatedWorker TableWorker _). HasKeptEntries 0 gated.worker.machine))
    (sym c.as_mut_slice.ensures.value) (c.in_ok-crew.ensures {u = tt}).unmoved
