use Rattle.std.proofs.Common.{◌≡◌, subst}
use Rattle.memo_words.specs.declared.words.Words.{Words}
use Rattle.memo_words.specs.Views.{record_loaded}
use Rattle.memo_words.specs.Layout.{slots_of, record_place}
use Rattle.history_table.specs.declared.history.Deed.TheVariants.{Load}
use Rattle.memo_words.specs.Passes.{view_of, plan_of, HasStepped, IsPassOf}
use Rattle.memo_table.proofs.NameLooks.{no_record, some_record}
use Rattle.memo_table.proofs.table.Table.load_record_word.Goals as goal

pub returns-then-found-eq0-clause-looked : goal.returns-then-found-eq0-clause-looked
returns-then-found-eq0-clause-looked g c =
    let e = c.record_load_step-found.ensures in
    let r = c.requires in
    let own = subst (λ (w : Words). IsPassOf w c.record_load_step-found.new.pass) c.self.view_is e.own in
    let view = subst (λ (w : Words). view_of c.record_load_step-found.new.pass ≡ record_loaded (plan_of w)
    c.position-position.result c.record_load_step-found.result (view_of c.args.pass.now)) c.self.view_is e.view in
    let stepped = subst (λ (w : Words). HasStepped (record_place (slots_of (plan_of w)) c.position-position.result) Load
    c.record_load_step-found.result c.args.pass.now c.record_load_step-found.new.pass) c.self.view_is e.marked in
    no_record c.args.self.now c.args.pass.now c.record_load_step-found.new.pass c.args.probe.now
    c.position-position.result c.record_load_step-found.result r.own r.follows r.record_word
    c.position-position.ensures.position own view stepped e.stays c.if-found-eq0.true e.known

pub returns-else-found-eq0-clause-looked : goal.returns-else-found-eq0-clause-looked
returns-else-found-eq0-clause-looked g c =
    let e = c.record_load_step-found.ensures in
    let r = c.requires in
    let own = subst (λ (w : Words). IsPassOf w c.record_load_step-found.new.pass) c.self.view_is e.own in
    let view = subst (λ (w : Words). view_of c.record_load_step-found.new.pass ≡ record_loaded (plan_of w)
    c.position-position.result c.record_load_step-found.result (view_of c.args.pass.now)) c.self.view_is e.view in
    let stepped = subst (λ (w : Words). HasStepped (record_place (slots_of (plan_of w)) c.position-position.result) Load
    c.record_load_step-found.result c.args.pass.now c.record_load_step-found.new.pass) c.self.view_is e.marked in
    some_record c.args.self.now c.args.pass.now c.record_load_step-found.new.pass c.args.probe.now
    c.position-position.result c.record_load_step-found.result r.own r.follows r.record_word
    c.position-position.ensures.position own view stepped e.stays c.if-found-eq0.false
