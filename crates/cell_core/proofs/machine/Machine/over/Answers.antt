use Rattle.std.proofs.Common.{Some}
use Rattle.cell_core.proofs.FreshMachines.{fresh_machine, fresh_bound}
use Rattle.cell_core.proofs.machine.Machine.over.Goals as goal

pub returns-clause-machine : goal.returns-clause-machine
returns-clause-machine g c = λ pass.
    fresh_machine g.M.Memo.meaning c.problem-problem.result.now (Some c.in_ok-notes.notes) c.in_ok-work.work c.in_ok-work.ensures
    c.in_ok-notes.ensures.none pass

pub returns-clause-bound : goal.returns-clause-bound
returns-clause-bound g c = λ pass m arguments counted all.
    fresh_bound g.M.Memo.meaning c.problem-problem.result.now (Some c.in_ok-notes.notes) c.in_ok-work.work c.in_ok-work.ensures
    pass m arguments
