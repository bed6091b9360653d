use Rattle.std.proofs.Common.{length, sym, ◌∙◌}
use Rattle.cell_core.proofs.PlainRecords.{same_bound}
use Rattle.cell_core.proofs.plain_memo.PlainMemo.place.Goals as goal

pub returns-clause-inside : goal.returns-clause-inside
returns-clause-inside c =
    c.place.ensures.below (length c.args.pass.now.records)
    (same_bound c.args.pass.now.problem c.self.inside.places (length c.args.pass.now.records)
    (c.requires.own ∙ sym c.self.view_is ∙ sym c.self.invariant) c.are_right.ensures.each_place)
