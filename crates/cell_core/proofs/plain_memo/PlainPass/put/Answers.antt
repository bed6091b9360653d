use Rattle.std.proofs.Common.{rules}
use Rattle.cell_core.proofs.PlainRecords.{are_put}
use Rattle.cell_core.proofs.plain_memo.PlainPass.put.Goals as goal

pub invariant_of-self : goal.invariant_of-self
invariant_of-self c =
    are_put c.self.inside.problem.now c.self.inside.records.items c.args.place c.args.it c.self.invariant (search rules)
    (search rules) (search rules) (search rules)
