use Rattle.evaluators.proofs.GoingOn.{can_go_on, still_at_work, same_post}
use Rattle.evaluators.proofs.worker.work.Goals as goal

pub drive-requires-clause-ready : goal.drive-requires-clause-ready
drive-requires-clause-ready g c = can_go_on c.args.table.now c.args.worker.now c.requires.ready

pub returns-clause-done : goal.returns-clause-done
returns-clause-done g c =
    let now = c.drive.ensures in
    record {
      at_work = still_at_work c.args.table.now c.args.worker.now c.drive.new.machine c.drive.new.pass now.on
          c.requires.ready.at_work;
      ended = now.ended;
    }

pub returns-clause-post : goal.returns-clause-post
returns-clause-post g c =
    same_post c.args.table.now c.args.worker.now c.drive.new.machine c.drive.new.pass c.drive.ensures.on
