use Rattle.std.proofs.Common.{◌∷◌, [], ◌++◌, List, refl, ap, ◌∙◌}
use Rattle.std.specs.Arc.{arc_value}
use Rattle.evaluators.specs.Working.{TableWorker, first_orders}
use Rattle.evaluators.specs.declared.gated.GatedWorker.{GatedWorker}
use Rattle.evaluators.proofs.Teams.{ready_worker, served_post}
use Rattle.evaluators.proofs.in_turn.Turns.serve.Goals as goal

pub work-requires : goal.work-requires
work-requires g c =
    let made = c.in_ok-machine.ensures in
    let turns = c.args.self.now in
    let pass = c.args.pass in
    let it : TableWorker =
    record { machine = c.in_ok-machine.machine; pass = pass; number = c.args.number; seed = turns.seed } in
    record {
      ready = ready_worker turns.table.now it (arc_value turns.prepared.now) turns.seed c.args.number c.requires.same
          c.requires.admissible c.requires.own made.fresh (made.machine pass) (made.bound pass) refl refl c.requires.no_wins
          c.requires.unmarked;
    }

pub returns : goal.returns
returns g c =
    let made = c.in_ok-machine.ensures in
    let turns = c.args.self.now in
    let pass = c.args.pass in
    let it : TableWorker =
    record { machine = c.in_ok-machine.machine; pass = pass; number = c.args.number; seed = turns.seed } in
    let one : GatedWorker TableWorker _ = record { worker = c.work.new.worker; gate = turns.door } in
    record {
      one = one;
      grown = c.in_ok-push.ensures.items ∙ ap (λ (xs : List (GatedWorker TableWorker _)). xs ++ one ∷ []) made.crew;
      done = c.work.ensures.done;
      post = c.work.ensures.post
          ∙ served_post it (arc_value turns.prepared.now) turns.seed c.args.number pass
          (first_orders turns.seed c.args.number) made.fresh refl refl refl;
    }
