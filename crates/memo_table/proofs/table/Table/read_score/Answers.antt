use Rattle.std.proofs.Common.{◌≡◌, ap, subst, arith}
use Rattle.memo_words.specs.declared.part.Part.TheVariants as parts
use Rattle.memo_words.specs.declared.words.Words.{Words}
use Rattle.memo_words.specs.Views.{arena_loaded}
use Rattle.memo_words.specs.Steps.{IsNamedAnswer}
use Rattle.memo_words.specs.Passes.{view_of, plan_of, problem_of, IsPassOf}
use Rattle.memo_table.specs.declared.probe.Next.TheVariants.{Score}
use Rattle.memo_table.specs.Following.{demanded_by}
use Rattle.memo_table.specs.Probes.{loads_record, steps_left}
use Rattle.memo_words.specs.Layout.{slots_of, records_of, arena_place}
use Rattle.memo_table.proofs.Quiet.{IsStepOn}
use Rattle.memo_table.proofs.Looks.{due_here}
use Rattle.memo_table.proofs.RecordLooks.{its_word, read_found, score_word, score_is}
use Rattle.memo_table.proofs.table.Table.read_score.Goals as goal

pub code_score-requires : goal.code_score-requires
code_score-requires g c =
    let e = c.read_step-code.ensures in
    let r = c.requires in
    let here = c.self.view_is in
    let code = c.read_step-code.result in
    let own = subst (λ (w : Words). IsPassOf w c.read_step-code.new.pass) here e.own in
    let view = subst (λ (w : Words). view_of c.read_step-code.new.pass ≡ arena_loaded (plan_of w) parts.Score
    c.args.number code (view_of c.args.pass.now)) here e.view in
    let stepped = subst (λ (w : Words). IsStepOn (arena_place (slots_of (plan_of w)) (records_of (plan_of w)) parts.Score
    c.args.number) c.args.pass.now c.read_step-code.new.pass) here (_, _, e.marked) in
    let told = subst (λ (w : Words). IsNamedAnswer (plan_of w) (view_of c.args.pass.now) parts.Score c.args.number
    code) here e.answer in
    let due = due_here c.args.self.now c.args.pass.now c.args.probe.now (Score c.args.number) r.own r.follows r.score in
    let word = its_word c.args.self.now c.args.pass.now c.read_step-code.new.pass c.args.probe.now parts.Score
    c.args.number code r.own r.follows due.0 (ap loads_record r.score) own view stepped told in
    score_word (problem_of c.args.self.now) c.args.probe.now.cell word.0 code word.1 word.2 due.1
    (c.answers_have_words.ensures (problem_of c.args.self.now) c.planned.ensures.admissible c.args.probe.now.cell word.0
    (demanded_by c.args.self.now c.args.pass.now c.args.probe.now r.own r.follows) word.1)

pub returns-clause-looked : goal.returns-clause-looked
returns-clause-looked g c =
    let e = c.read_step-code.ensures in
    let r = c.requires in
    let here = c.self.view_is in
    let code = c.read_step-code.result in
    let own = subst (λ (w : Words). IsPassOf w c.read_step-code.new.pass) here e.own in
    let view = subst (λ (w : Words). view_of c.read_step-code.new.pass ≡ arena_loaded (plan_of w) parts.Score
    c.args.number code (view_of c.args.pass.now)) here e.view in
    let stepped = subst (λ (w : Words). IsStepOn (arena_place (slots_of (plan_of w)) (records_of (plan_of w)) parts.Score
    c.args.number) c.args.pass.now c.read_step-code.new.pass) here (_, _, e.marked) in
    let told = subst (λ (w : Words). IsNamedAnswer (plan_of w) (view_of c.args.pass.now) parts.Score c.args.number
    code) here e.answer in
    let due = due_here c.args.self.now c.args.pass.now c.args.probe.now (Score c.args.number) r.own r.follows r.score in
    let word = its_word c.args.self.now c.args.pass.now c.read_step-code.new.pass c.args.probe.now parts.Score
    c.args.number code r.own r.follows due.0 (ap loads_record r.score) own view stepped told in
    let fit = c.answers_have_words.ensures (problem_of c.args.self.now) c.planned.ensures.admissible
    c.args.probe.now.cell word.0
    (demanded_by c.args.self.now c.args.pass.now c.args.probe.now r.own r.follows) word.1 in
    read_found c.args.self.now c.args.pass.now c.read_step-code.new.pass c.args.probe.now parts.Score
    c.args.number code
    r.own r.follows due.0 (ap loads_record r.score) own view stepped c.code_score.result
    (score_is (problem_of c.args.self.now) c.args.probe.now.cell word.0 code c.code_score.result word.1 word.2 due.1
    fit c.code_score.ensures.inverse)
    (λ m. let one : steps_left m c.args.probe.now.turn c.args.probe.now.next ≡ 1 = ap
    (steps_left m c.args.probe.now.turn) r.score in omega arith)
