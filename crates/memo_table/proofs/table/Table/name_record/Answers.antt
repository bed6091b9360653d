use Rattle.std.proofs.Common.{◌≡◌, ◌+◌, subst}
use Rattle.memo_words.specs.declared.words.Words.{Words}
use Rattle.memo_words.specs.Views.{record_exchanged}
use Rattle.memo_words.specs.Layout.{slots_of, record_place}
use Rattle.history_table.specs.declared.history.Deed.TheVariants.{Exchange}
use Rattle.memo_words.specs.Passes.{view_of, plan_of, HasStepped, IsPassOf}
use Rattle.memo_table.proofs.Publications.{name_put, name_found}
use Rattle.memo_table.proofs.table.Table.name_record.Goals as goal

pub returns-then-found-eq0-clause-published : goal.returns-then-found-eq0-clause-published
returns-then-found-eq0-clause-published g c =
    let e = c.record_exchange_step-found.ensures in
    let r = c.requires in
    let own = subst (λ (w : Words). IsPassOf w c.record_exchange_step-found.new.pass) c.self.view_is e.own in
    let view = subst (λ (w : Words). view_of c.record_exchange_step-found.new.pass ≡ record_exchanged (plan_of w)
    c.position-position.result c.args.number c.record_exchange_step-found.result (view_of c.args.pass.now))
    c.self.view_is e.view in
    let stepped = subst (λ (w : Words). HasStepped (record_place (slots_of (plan_of w)) c.position-position.result)
    (Exchange 0 (c.args.number + 1)) c.record_exchange_step-found.result c.args.pass.now
    c.record_exchange_step-found.new.pass) c.self.view_is e.marked in
    name_put c.args.self.now c.args.pass.now c.record_exchange_step-found.new.pass c.args.probe.now
    c.position-position.result c.args.number c.record_exchange_step-found.result
    r.own r.follows r.publish c.position-position.ensures.position own view stepped c.if-found-eq0.true

pub returns-else-found-eq0-clause-published : goal.returns-else-found-eq0-clause-published
returns-else-found-eq0-clause-published g c =
    let e = c.record_exchange_step-found.ensures in
    let r = c.requires in
    let own = subst (λ (w : Words). IsPassOf w c.record_exchange_step-found.new.pass) c.self.view_is e.own in
    let view = subst (λ (w : Words). view_of c.record_exchange_step-found.new.pass ≡ record_exchanged (plan_of w)
    c.position-position.result c.args.number c.record_exchange_step-found.result (view_of c.args.pass.now))
    c.self.view_is e.view in
    let stepped = subst (λ (w : Words). HasStepped (record_place (slots_of (plan_of w)) c.position-position.result)
    (Exchange 0 (c.args.number + 1)) c.record_exchange_step-found.result c.args.pass.now
    c.record_exchange_step-found.new.pass) c.self.view_is e.marked in
    name_found c.args.self.now c.args.pass.now c.record_exchange_step-found.new.pass c.args.probe.now
    c.position-position.result c.args.number c.record_exchange_step-found.result
    r.own r.follows r.publish c.position-position.ensures.position own view stepped c.if-found-eq0.false
