use Rattle.std.proofs.Common.{ap, ◌∙◌, length, arith}
use Rattle.std.proofs.lemmas.List.{length_push}
use Rattle.adp_model.specs.LimitFaults.{told}
use Rattle.grammar_check.specs.CheckedGrammar.{CheckedGrammar}
use Rattle.grammar_check.specs.Tables.{entry}
use Rattle.grammar_check.proofs.ScoreRows.{row_more}
use Rattle.grammar_check.proofs.bounds.node_row.Goals as goal

pub get-requires-clause-row : goal.get-requires-clause-row
get-requires-clause-row c =
    let known = c.numbers_fit_together.ensures.axiom_known c.checked.inside.grammar c.checked.invariant.found.well_formed in
    omega (arith, known, c.in_ok-filled.ensures.rows, ap (λ (g : CheckedGrammar). length g.grammar.rules) c.checked.view_is)

pub loop-len-preserved : goal.loop-len-preserved
loop-len-preserved c = rw c.in_ok-push.ensures.items (record {
  each = omega (arith, length_push c.loop-len.row.items c.get.result, c.loop-len.invariant.each);
  entries = row_more c.loop-len.row.items c.loop-len.len c.get.result (entry c.in_ok-filled.filled.table c.checked.inside.grammar.axiom) c.loop-len.invariant.each c.loop-len.invariant.entries c.get.ensures;
})

pub returns-clause-bounds : goal.returns-clause-bounds
returns-clause-bounds c = λ nodes bounds len short.
    let grammar = c.checked.inside.grammar in
    let known = c.numbers_fit_together.ensures.axiom_known grammar c.checked.invariant.found.well_formed in
    c.loop-len.invariant.entries len (omega (arith, c.loop-len-test.false))
    ∙ c.in_ok-filled.ensures.entries nodes bounds grammar.axiom len (omega (arith, known, ap (λ (g : CheckedGrammar). length g.grammar.rules) c.checked.view_is)) short
    ∙ ap (λ (g : CheckedGrammar). told (nodes g.grammar.axiom len)) c.checked.view_is
