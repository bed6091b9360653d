use Rattle.std.proofs.Common.{◌≡◌, None, refl, ap, subst, sym, ◌∙◌, arith}
use Rattle.memo_words.specs.declared.part.Part.TheVariants as parts
use Rattle.memo_words.specs.declared.words.Words.{Words}
use Rattle.memo_words.specs.Views.{arena_loaded}
use Rattle.memo_words.specs.Steps.{IsNamedAnswer}
use Rattle.memo_words.specs.Passes.{view_of, plan_of, problem_of, IsPassOf}
use Rattle.memo_table.specs.declared.probe.Next.TheVariants.{Choice, Score}
use Rattle.memo_table.specs.Probes.{loads_record, steps_left}
use Rattle.memo_words.specs.Layout.{slots_of, records_of, arena_place}
use Rattle.memo_table.proofs.Quiet.{IsStepOn}
use Rattle.memo_table.proofs.Looks.{due_here}
use Rattle.memo_table.proofs.RecordLooks.{its_word, read_on, read_found, seen_on, no_candidate, some_candidate}
use Rattle.memo_table.proofs.table.Table.read_choice.Goals as goal

pub returns-then-code-eq-NO_CANDIDATE-clause-looked : goal.returns-then-code-eq-NO_CANDIDATE-clause-looked
returns-then-code-eq-NO_CANDIDATE-clause-looked g c =
    let e = c.read_step-code.ensures in
    let r = c.requires in
    let here = c.self.view_is in
    let code = c.read_step-code.result in
    let own = subst (λ (w : Words). IsPassOf w c.read_step-code.new.pass) here e.own in
    let view = subst (λ (w : Words). view_of c.read_step-code.new.pass ≡ arena_loaded (plan_of w) parts.Choice
    c.args.number code (view_of c.args.pass.now)) here e.view in
    let stepped = subst (λ (w : Words). IsStepOn (arena_place (slots_of (plan_of w)) (records_of (plan_of w)) parts.Choice
    c.args.number) c.args.pass.now c.read_step-code.new.pass) here (_, _, e.marked) in
    let told = subst (λ (w : Words). IsNamedAnswer (plan_of w) (view_of c.args.pass.now) parts.Choice c.args.number
    code) here e.answer in
    let seen = due_here c.args.self.now c.args.pass.now c.args.probe.now (Choice c.args.number) r.own r.follows
    r.choice in
    let word = its_word c.args.self.now c.args.pass.now c.read_step-code.new.pass c.args.probe.now parts.Choice
    c.args.number code r.own r.follows seen (ap loads_record r.choice) own view stepped told in
    read_found c.args.self.now c.args.pass.now c.read_step-code.new.pass c.args.probe.now parts.Choice
    c.args.number code
    r.own r.follows seen (ap loads_record r.choice) own view stepped None
    (no_candidate (problem_of c.args.self.now) c.args.probe.now.cell word.0 word.1
    (sym c.if-code-eq-NO_CANDIDATE.true ∙ word.2))
    (λ m. let two : steps_left m c.args.probe.now.turn c.args.probe.now.next ≡ 2 = ap
    (steps_left m c.args.probe.now.turn) r.choice in omega arith)

pub returns-else-code-eq-NO_CANDIDATE-clause-looked : goal.returns-else-code-eq-NO_CANDIDATE-clause-looked
returns-else-code-eq-NO_CANDIDATE-clause-looked g c =
    let e = c.read_step-code.ensures in
    let r = c.requires in
    let here = c.self.view_is in
    let code = c.read_step-code.result in
    let own = subst (λ (w : Words). IsPassOf w c.read_step-code.new.pass) here e.own in
    let view = subst (λ (w : Words). view_of c.read_step-code.new.pass ≡ arena_loaded (plan_of w) parts.Choice
    c.args.number code (view_of c.args.pass.now)) here e.view in
    let stepped = subst (λ (w : Words). IsStepOn (arena_place (slots_of (plan_of w)) (records_of (plan_of w)) parts.Choice
    c.args.number) c.args.pass.now c.read_step-code.new.pass) here (_, _, e.marked) in
    let told = subst (λ (w : Words). IsNamedAnswer (plan_of w) (view_of c.args.pass.now) parts.Choice c.args.number
    code) here e.answer in
    let seen = due_here c.args.self.now c.args.pass.now c.args.probe.now (Choice c.args.number) r.own r.follows
    r.choice in
    let word = its_word c.args.self.now c.args.pass.now c.read_step-code.new.pass c.args.probe.now parts.Choice
    c.args.number code r.own r.follows seen (ap loads_record r.choice) own view stepped told in
    read_on c.args.self.now c.args.pass.now c.read_step-code.new.pass c.args.probe.now parts.Choice
    c.args.number code
    r.own r.follows seen (ap loads_record r.choice) own view stepped (Score c.args.number) refl (
      seen_on c.args.self.now c.args.pass.now c.read_step-code.new.pass c.args.probe.now parts.Choice
          c.args.number code r.own r.follows seen (ap loads_record r.choice) own view stepped,
      some_candidate (problem_of c.args.self.now) c.args.probe.now.cell word.0 code word.1 word.2
          c.if-code-eq-NO_CANDIDATE.false,
    )
    (λ m. let two : steps_left m c.args.probe.now.turn c.args.probe.now.next ≡ 2 = ap
    (steps_left m c.args.probe.now.turn) r.choice in omega arith)
    (λ m. omega arith)
