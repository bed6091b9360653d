use Rattle.std.proofs.Common.{◌≡◌, subst}
use Rattle.memo_words.specs.declared.part.Part.TheVariants as parts
use Rattle.memo_words.specs.declared.words.Words.{Words}
use Rattle.memo_words.specs.Views.{arena_stored}
use Rattle.memo_words.specs.Passes.{view_of, plan_of, IsPassOf}
use Rattle.memo_words.specs.Layout.{slots_of, records_of, arena_place}
use Rattle.memo_table.proofs.Quiet.{IsStepOn}
use Rattle.memo_table.proofs.Publications.{score_stored}
use Rattle.memo_table.proofs.table.Table.store_score.Goals as goal

pub returns-clause-published : goal.returns-clause-published
returns-clause-published g c =
    let e = c.write_step.ensures in
    let r = c.requires in
    let own = subst (λ (w : Words). IsPassOf w c.write_step.new.pass) c.self.view_is e.own in
    let view = subst (λ (w : Words). view_of c.write_step.new.pass ≡ arena_stored (plan_of w) parts.Score
    c.args.number c.score_word-code.result (view_of c.args.pass.now)) c.self.view_is e.view in
    let stepped = subst (λ (w : Words). IsStepOn (arena_place (slots_of (plan_of w)) (records_of (plan_of w)) parts.Score
    c.args.number) c.args.pass.now c.write_step.new.pass) c.self.view_is (_, e.marked.0, e.marked.1) in
    score_stored c.args.self.now c.args.pass.now c.write_step.new.pass c.args.probe.now c.args.number
    c.score_word-code.result
    c.args.answer r.own r.hand r.follows r.score r.answer c.score_word-code.ensures own view e.hand stepped
