use Rattle.std.proofs.Common.{◌≡◌, List, [], length, map, refl, sym, ap, ◌∙◌, subst}
use Rattle.std.proofs.lemmas.List.Elements.{All-pop}
use Rattle.std.specs.declared.option.Option.TheVariants.{Some}
use Rattle.memo_words.specs.declared.pass.Pass.{Pass}
use Rattle.memo_words.specs.Passes.{problem_of}
use Rattle.evaluators.specs.Posts.{posts_of}
use Rattle.evaluators.specs.Runs.{HasFirstEnded}
use Rattle.evaluators.specs.Working.{TableWorker, IsAtWork, post_of}
use Rattle.evaluators.specs.declared.gated.GatedWorker.{GatedWorker}
use Rattle.evaluators.proofs.Listed.{nothing}
use Rattle.evaluators.proofs.Joining.{IsGathered, gathered_first, gathered_next, all_joined, all_kept, posts_length}
use Rattle.evaluators.proofs.crew.join_all.Goals as goal

pub unreachable-requires : goal.unreachable-requires
unreachable-requires g c =
    let none : length c.args.workers.items ≡ 0 =
    sym c.args.workers.ok.0 ∙ (c.in_default.ensures {u = tt}).cases.0 in
    absurd (subst (λ (ones : List (GatedWorker TableWorker _)). HasFirstEnded (map (λ one. one.worker.machine) ones))
    (nothing c.args.workers.items none) c.requires.first)

pub loop-gated-init : goal.loop-gated-init
loop-gated-init g c =
    let many = posts_length (λ (gated : GatedWorker TableWorker _). post_of gated.worker) (problem_of c.args.table.now)
    c.args.seed c.args.count c.args.workers.items c.requires.posts in
    let left = c.in_ok-left.left in
    let by_last = c.in_ok-left.ensures {u = tt} in
    subst
    (λ (pass : Pass). IsGathered (λ (gated : GatedWorker TableWorker _). gated.worker) c.args.table.now c.args.seed
    c.args.count c.args.workers.items c.pop.new.self.items pass left.wins.items left.machines.items)
    (sym by_last.pass)
    (gathered_first (λ (gated : GatedWorker TableWorker _). gated.worker) c.args.table.now c.args.seed
    c.args.workers.items c.pop.new.self.items c.in-Some.last [] left.wins.items [] left.machines.items
    (record {
      all_are = (c.in-Some.ensures {u = tt}).items;
      won_are = by_last.wins;
      machines_are = by_last.machines;
    })
    c.requires.at_work
    (c.requires.posts ∙ ap (posts_of (problem_of c.args.table.now) c.args.seed) many)
    c.args.count many c.requires.first refl refl)

pub take_in-requires-clause-into : goal.take_in-requires-clause-into
take_in-requires-clause-into g c = c.loop-gated.invariant.own

pub take_in-requires-clause-other : goal.take_in-requires-clause-other
take_in-requires-clause-other g c =
    (All-pop (λ (gated : GatedWorker TableWorker _). IsAtWork c.args.table.now gated.worker) c.loop-gated.workers.items
    c.pop-in-loop-gated.new.self.items (Some c.in-Some-pop.gated) (c.in-Some-pop.ensures {u = tt}).items
    c.loop-gated.invariant.at_work).1.own

pub loop-gated-preserved : goal.loop-gated-preserved
loop-gated-preserved g c =
    gathered_next (λ (gated : GatedWorker TableWorker _). gated.worker) c.args.table.now c.args.seed
    c.loop-gated.workers.items c.pop-in-loop-gated.new.self.items c.in-Some-pop.gated
    c.loop-gated.left.wins.items c.take_in.new.left.wins.items
    c.loop-gated.left.machines.items c.take_in.new.left.machines.items
    (record {
      all_are = (c.in-Some-pop.ensures {u = tt}).items;
      won_are = (c.in_ok-take_in.ensures {u = tt}).wins;
      machines_are = (c.in_ok-take_in.ensures {u = tt}).machines;
    })
    c.loop-gated.invariant.at_work c.loop-gated.invariant.posts c.args.count c.args.workers.items
    c.loop-gated.left.pass c.take_in.new.left.pass c.loop-gated.invariant c.take_in.ensures.own c.take_in.ensures.view
    c.take_in.ensures.marks

pub returns-clause-joined : goal.returns-clause-joined
returns-clause-joined g c =
    all_joined (λ (gated : GatedWorker TableWorker _). gated.worker) c.args.table.now c.args.seed c.args.count
    c.args.workers.items c.loop-gated.workers.items c.loop-gated.left.pass c.loop-gated.left.wins.items
    c.loop-gated.left.machines.items
    (record { pass = c.loop-gated.left.pass; machines = c.reverse-2.new.self; wins = c.reverse.new.self })
    c.loop-gated.invariant c.requires.first
    (nothing c.loop-gated.workers.items
    (sym c.loop-gated.workers.ok.0 ∙ (c.in_default-pop.ensures {u = tt}).cases.0))
    refl c.reverse.ensures.items c.reverse-2.ensures.items c.reverse-2.new.self.ok.0

pub returns-clause-kept : goal.returns-clause-kept
returns-clause-kept g c =
    c.reverse-2.ensures.items
    ∙ all_kept (λ (gated : GatedWorker TableWorker _). gated.worker) c.args.table.now c.args.seed c.args.count
    c.args.workers.items c.loop-gated.workers.items c.loop-gated.left.pass c.loop-gated.left.wins.items
    c.loop-gated.left.machines.items c.loop-gated.invariant
    (nothing c.loop-gated.workers.items
    (sym c.loop-gated.workers.ok.0 ∙ (c.in_default-pop.ensures {u = tt}).cases.0))
