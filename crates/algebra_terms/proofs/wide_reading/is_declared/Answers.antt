use Rattle.std.proofs.Common.{◌≡◌, false, sym, ◌∙◌}
use Rattle.job_texts.specs.TermText.{begins_number}
use Rattle.algebra_terms.proofs.Firsts.{known}
use Rattle.algebra_terms.proofs.wide_reading.is_declared.Goals as goal

pub returns-else-begins_number : goal.returns-else-begins_number
returns-else-begins_number c =
    let word = c.in-Leaf.word.now in
    let variable : begins_number word ≡ false = sym c.begins_number.ensures ∙ c.if-begins_number.false in
    let found = known c.is_some.result c.get.result _ c.args.vars.now word c.is_some.ensures c.get.ensures.value (c.requires word) in
    rw c.in-Leaf.is (rw variable found)
