use Rattle.std.proofs.Common.{◌-◌, ℕ, refl, ap, subst, sym, ◌∙◌, arith}
use Rattle.adp_model.specs.Answers.{IsAnswer}
use Rattle.memo_words.specs.Codes.{HasCellCode}
use Rattle.memo_words.specs.Kept.{arena}
use Rattle.memo_table.proofs.ClosedParts.{name_read, answered_at, nowhere_demanded, its_demand}
use Rattle.memo_table.proofs.closed.ClosedAnswers.answer.Goals as goal

pub returns-in_err-position-clause-demanded : goal.returns-in_err-position-clause-demanded
returns-in_err-position-clause-demanded c demanded =
    absurd (nowhere_demanded c.args.self.now c.args.cell c.settled.ensures.settled
    (λ position inside here. c.in_err-position.ensures position inside (here ∙ sym c.cell_code.ensures)) demanded)

pub read-requires-clause-words : goal.read-requires-clause-words
read-requires-clause-words c =
    let same = c.record_word-name.ensures ∙ name_read c.self.inside c.args.self.now c.self.view_is c.self.invariant
    c.in_ok-position.position in
    let nonzero = c.if-name-eq0.false in
    let here = c.in_ok-position.ensures in
    let coded : HasCellCode c.args.cell = (c.if-not-has_code.ensures.0 refl) in
    let (answer, right, held) = answered_at c.args.self.now c.args.cell c.in_ok-position.position
    c.settled.ensures.settled
    c.codes_tell_apart.ensures.cells coded here.0 (here.1 ∙ c.cell_code.ensures) (omega (arith, same, nonzero)) in (
      answer,
      c.answers_have_words.ensures c.args.self.now.plan.problem c.settled.ensures.admissible c.args.cell answer
          (its_demand c.args.self.now c.args.cell c.in_ok-position.position answer c.settled.ensures.settled held)
          right,
      λ part. ap (λ (n : ℕ). arena c.args.self.now.plan c.args.self.now.words part (n - 1)) same ∙ held.codes part,
    )

pub returns-clause-told : goal.returns-clause-told
returns-clause-told c =
    let same = c.record_word-name.ensures ∙ name_read c.self.inside c.args.self.now c.self.view_is c.self.invariant
    c.in_ok-position.position in
    let nonzero = c.if-name-eq0.false in
    let here = c.in_ok-position.ensures in
    let (answer, right, held) = answered_at c.args.self.now c.args.cell c.in_ok-position.position
    c.settled.ensures.settled
    c.codes_tell_apart.ensures.cells (c.if-not-has_code.ensures.0 refl) here.0 (here.1 ∙ c.cell_code.ensures)
    (omega (arith, same, nonzero)) in
    let fits = c.answers_have_words.ensures c.args.self.now.plan.problem c.settled.ensures.admissible c.args.cell answer
    (its_demand c.args.self.now c.args.cell c.in_ok-position.position answer c.settled.ensures.settled held) right in
    subst (IsAnswer c.args.self.now.plan.problem c.args.cell)
    (sym (c.read.ensures answer fits (λ part. ap
    (λ (n : ℕ). arena c.args.self.now.plan c.args.self.now.words part (n - 1)) same ∙ held.codes part)))
    right
