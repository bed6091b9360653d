use Rattle.std.proofs.Common.{◌∷◌, sym, ap, subst, ◌∙◌, arith}
use Rattle.adp_model.specs.declared.grammar.Grammar.{Grammar}
use Rattle.adp_model.specs.PosedProblem.{PosedProblem}
use Rattle.table_certificate.specs.CertificateLines.{LineForm, forms_of}
use Rattle.table_certificate.specs.Claims.{Tell, claimed}
use Rattle.table_certificate.specs.KnownScores.{AreSaidBest}
use Rattle.table_certificate.specs.LocalCertificate.{IsRightWordLine}
use Rattle.table_certificate.specs.BlockLines.{AreRightFurther, IsBlock, IsFirstWrong, lines_ahead}
use Rattle.table_certificate.specs.NextForms.{IsNextForm}
use Rattle.table_certificate.proofs.BlockOutcomes.{false_further, false_head, head_kept, right_block}
use Rattle.table_certificate.proofs.SplitLines.{not_both}
use Rattle.table_certificate.proofs.blocks.judge_block.Goals as goal

pub returns-then-not-is_right_head-clause-outcome : goal.returns-then-not-is_right_head-clause-outcome
returns-then-not-is_right_head-clause-outcome c =
    let p = c.args.problem.now in
    let G = ap (λ (q : PosedProblem). q.grammar) c.problem.view_is in
    let rest = c.in-Some.rest.now in
    let lines = lines_ahead p.grammar rest in
    let next = subst (λ (g : Grammar). IsNextForm g c.args.text.now c.in-Some.form rest) G c.in-Some.ensures in
    let head = head_kept next.exact c.in-Some.form next.is c.in-Word.told c.in-Word.cells c.in-Word.is in
    let is = next.first ∙ ap (λ (x : LineForm). x ∷ forms_of p.grammar rest) head.is in
    let block = subst (λ (g : Grammar). IsBlock g rest c.in_ok-block.block) G c.in_ok-block.ensures in
    false_head p c.args.number c.args.text.now rest c.in_ok-block.block.behind.now head.number head.cells is block.parts block.ends
    (λ right. not_both c.is_right_head.result c.if-not-is_right_head.true
    ((c.is_right_head.ensures head.number head.cells head.told_is head.many_is).1 (right.numbered, right.counted ∙ sym block.counted)))

pub returns-in_default-told_value-clause-outcome : goal.returns-in_default-told_value-clause-outcome
returns-in_default-told_value-clause-outcome c =
    let p = c.args.problem.now in
    let G = ap (λ (q : PosedProblem). q.grammar) c.problem.view_is in
    let rest = c.in-Some.rest.now in
    let lines = lines_ahead p.grammar rest in
    let next = subst (λ (g : Grammar). IsNextForm g c.args.text.now c.in-Some.form rest) G c.in-Some.ensures in
    let head = head_kept next.exact c.in-Some.form next.is c.in-Word.told c.in-Word.cells c.in-Word.is in
    let is = next.first ∙ ap (λ (x : LineForm). x ∷ forms_of p.grammar rest) head.is in
    let block = subst (λ (g : Grammar). IsBlock g rest c.in_ok-block.block) G c.in_ok-block.ensures in
    false_head p c.args.number c.args.text.now rest c.in_ok-block.block.behind.now head.number head.cells is block.parts block.ends
    (λ right. c.in_default-told_value.ensures lines block.told right.axiom_line)

pub returns-in-Some-first_wrong-clause-outcome : goal.returns-in-Some-first_wrong-clause-outcome
returns-in-Some-first_wrong-clause-outcome c =
    let p = c.args.problem.now in
    let G = ap (λ (q : PosedProblem). q.grammar) c.problem.view_is in
    let rest = c.in-Some.rest.now in
    let lines = lines_ahead p.grammar rest in
    let next = subst (λ (g : Grammar). IsNextForm g c.args.text.now c.in-Some.form rest) G c.in-Some.ensures in
    let head = head_kept next.exact c.in-Some.form next.is c.in-Word.told c.in-Word.cells c.in-Word.is in
    let is = next.first ∙ ap (λ (x : LineForm). x ∷ forms_of p.grammar rest) head.is in
    let block = subst (λ (g : Grammar). IsBlock g rest c.in_ok-block.block) G c.in_ok-block.ensures in
    let both = (c.is_right_head.ensures head.number head.cells head.told_is head.many_is).0 c.if-not-is_right_head.false in
    let told = c.in-Some-told_value.ensures lines block.told in
    let right : IsRightWordLine p lines c.args.number head.number head.cells = record { numbered = both.0; counted = both.1 ∙ block.counted; axiom_line = told.0 } in
    let place = c.in-Some-first_wrong.place in
    let wrong = subst (λ (q : PosedProblem). IsFirstWrong q (lines_ahead q.grammar rest) place) (c.lines-lines.ensures ∙ c.prepared-prepared.ensures ∙ c.requires.solved) c.in-Some-first_wrong.ensures in
    false_further p c.args.number c.args.text.now rest c.in_ok-block.block.behind.now head.number head.cells is block.parts block.ends right place wrong

pub returns-in-Some-first_wrong-clause-within : goal.returns-in-Some-first_wrong-clause-within
returns-in-Some-first_wrong-clause-within c =
    let p = c.args.problem.now in
    let G = ap (λ (q : PosedProblem). q.grammar) c.problem.view_is in
    let rest = c.in-Some.rest.now in
    let lines = lines_ahead p.grammar rest in
    let next = subst (λ (g : Grammar). IsNextForm g c.args.text.now c.in-Some.form rest) G c.in-Some.ensures in
    let head = head_kept next.exact c.in-Some.form next.is c.in-Word.told c.in-Word.cells c.in-Word.is in
    let is = next.first ∙ ap (λ (x : LineForm). x ∷ forms_of p.grammar rest) head.is in
    let block = subst (λ (g : Grammar). IsBlock g rest c.in_ok-block.block) G c.in_ok-block.ensures in
    let place = c.in-Some-first_wrong.place in
    let wrong = subst (λ (q : PosedProblem). IsFirstWrong q (lines_ahead q.grammar rest) place) (c.lines-lines.ensures ∙ c.prepared-prepared.ensures ∙ c.requires.solved) c.in-Some-first_wrong.ensures in
    omega (arith, wrong.inside, block.counted, block.fewer, next.fewer)

pub returns-clause-outcome : goal.returns-clause-outcome
returns-clause-outcome c =
    let p = c.args.problem.now in
    let G = ap (λ (q : PosedProblem). q.grammar) c.problem.view_is in
    let rest = c.in-Some.rest.now in
    let lines = lines_ahead p.grammar rest in
    let next = subst (λ (g : Grammar). IsNextForm g c.args.text.now c.in-Some.form rest) G c.in-Some.ensures in
    let head = head_kept next.exact c.in-Some.form next.is c.in-Word.told c.in-Word.cells c.in-Word.is in
    let is = next.first ∙ ap (λ (x : LineForm). x ∷ forms_of p.grammar rest) head.is in
    let block = subst (λ (g : Grammar). IsBlock g rest c.in_ok-block.block) G c.in_ok-block.ensures in
    let both = (c.is_right_head.ensures head.number head.cells head.told_is head.many_is).0 c.if-not-is_right_head.false in
    let told = c.in-Some-told_value.ensures lines block.told in
    let right : IsRightWordLine p lines c.args.number head.number head.cells = record { numbered = both.0; counted = both.1 ∙ block.counted; axiom_line = told.0 } in
    let further = subst (λ (q : PosedProblem). AreRightFurther q (lines_ahead q.grammar rest)) (c.lines-lines.ensures ∙ c.prepared-prepared.ensures ∙ c.requires.solved) c.in-None.ensures in
    right_block p c.args.number c.args.text.now rest c.in_ok-block.block.behind.now head.number head.cells is block.parts block.ends right
    c.in-Some-told_value.value c.in_ok-block.block.count further told.1 block.counted (omega (arith, block.fewer, next.fewer))

pub first_wrong-requires-clause-noted : goal.first_wrong-requires-clause-noted
first_wrong-requires-clause-noted c =
    subst (λ (q : PosedProblem). AreSaidBest q (claimed c.in_ok-block.block.claims) c.in_ok-said_best.said_best)
    (c.layout-layout.ensures ∙ sym c.lines-lines.ensures) c.in_ok-said_best.ensures

pub first_wrong-requires-clause-told : goal.first_wrong-requires-clause-told
first_wrong-requires-clause-told c =
    let rest = c.in-Some.rest.now in
    let G = ap (λ (q : PosedProblem). q.grammar) c.problem.view_is in
    let block = subst (λ (g : Grammar). IsBlock g rest c.in_ok-block.block) G c.in_ok-block.ensures in
    subst (λ (q : PosedProblem). Tell c.in_ok-block.block.claims (lines_ahead q.grammar rest)) (sym (c.lines-lines.ensures ∙ c.prepared-prepared.ensures ∙ c.requires.solved)) block.told
