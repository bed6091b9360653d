use Rattle.algebra_terms.specs.Tokens.{said}
use Rattle.std.proofs.Common.{map, ◌≡◌, sym, ◌∙◌, FitsSigned, w64, to_z, of_z, Some, rules}
use Rattle.std.proofs.lemmas.Int.{to_z-of_z}
use Rattle.job_texts.specs.TermText.{signed}
use Rattle.algebra_terms.proofs.Parts.{at_variable, at_number}
use Rattle.algebra_terms.proofs.part.part_at.Goals as goal

pub returns-then-not-begins_number-clause-part : goal.returns-then-not-begins_number-clause-part
returns-then-not-begins_number-clause-part c =
    let fits : FitsSigned w64 c.signed.result = search rules in
    let amount : Some (to_z w64 (of_z w64 c.signed.result)) ≡ signed c.args.negative (Some 1) = simp to_z-of_z c.signed.ensures in
    rw (c.in_ok-symbol.ensures.says, c.in-Word.is, amount) (at_variable c.args.negative c.in-Word.word.now (map (said c.args.line.now) c.in_ok-symbol.rest.now)
    (sym c.begins_number.ensures ∙ c.if-not-begins_number.true))

pub returns-in-Some-clause-part : goal.returns-in-Some-clause-part
returns-in-Some-clause-part c = rw (c.in_ok-symbol.ensures.says, c.in-Word.is, c.in-Some.ensures.times) c.multiple_at.ensures.part

pub returns-clause-part : goal.returns-clause-part
returns-clause-part c =
    rw (c.in_ok-symbol.ensures.says, c.in-Word.is, c.amount_of-amount.ensures)
    (at_number c.args.negative c.in-Word.word.now (map (said c.args.line.now) c.in_ok-symbol.rest.now)
    (sym c.begins_number.ensures ∙ c.if-not-begins_number.false) c.in_default-after_times.ensures.times)
