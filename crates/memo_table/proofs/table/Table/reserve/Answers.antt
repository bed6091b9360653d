use Rattle.std.proofs.Common.{subst}
use Rattle.memo_words.specs.declared.words.Words.{Words}
use Rattle.memo_words.specs.Passes.{IsPassOf}
use Rattle.memo_table.proofs.Publications.{reserved}
use Rattle.memo_table.proofs.table.Table.reserve.Goals as goal

pub returns-clause-published : goal.returns-clause-published
returns-clause-published g c =
    let e = c.reserve_step-number.ensures in
    let r = c.requires in
    let own = subst (λ (w : Words). IsPassOf w c.reserve_step-number.new.pass) c.self.view_is e.own in
    reserved c.args.self.now c.args.pass.now c.reserve_step-number.new.pass c.args.probe.now
    c.reserve_step-number.result
    r.own r.follows r.reserve own e.view (_, _, e.marked) e.hand
