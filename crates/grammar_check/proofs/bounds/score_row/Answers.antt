use Rattle.std.proofs.Common.{◌≡◌, ℕ, ◌+◌, suc, length, sym, ap, subst, ◌∙◌, arith}
use Rattle.adp_model.specs.Bounds.{AreScoreBounds}
use Rattle.adp_model.specs.LimitFaults.{told}
use Rattle.std.proofs.lemmas.List.{length_push}
use Rattle.grammar_check.specs.CheckedGrammar.{CheckedGrammar}
use Rattle.grammar_check.specs.declared.measure.Measure.TheVariants.{Scores}
use Rattle.grammar_check.specs.KeptPlans.{rule_tokens}
use Rattle.grammar_check.specs.GrammarPlans.{grammar_plan, lengths_of}
use Rattle.grammar_check.specs.TokenNumbers.{greatest_of, tokens_number, score_number}
use Rattle.grammar_check.proofs.Spreads.{ord_max-numbers}
use Rattle.grammar_check.proofs.ScoreRows.{cut_number, cut_number-told, cut_number-same, cut_more, row_more}
use Rattle.grammar_check.proofs.bounds.score_row.Goals as goal

pub loop-len-preserved : goal.loop-len-preserved
loop-len-preserved c =
    let table = c.in_ok-filled.filled.table in
    let number : ℕ → ℕ = λ l. greatest_of (rule_tokens l) c.in_ok-filled.filled.plans.items in
    let len = c.loop-len.len in
    let next = cut_more table number len c.loop-len.greatest c.greatest_entry-rules.result c.greatest_token-tokens.result c.max.result c.max-greatest.result
    c.loop-len.invariant.greatest c.greatest_entry-rules.ensures (c.greatest_token-tokens.ensures ∙ ap (λ ps. told (greatest_of (rule_tokens len) ps)) c.deref.ensures.value)
    c.max.ensures (c.max-greatest.ensures ∙ ord_max-numbers c.loop-len.greatest c.max.result) in
    rw c.in_ok-push.ensures.items (record {
      each = omega (arith, length_push c.loop-len.row.items c.max-greatest.result, c.loop-len.invariant.each);
      greatest = next;
      entries = row_more c.loop-len.row.items len c.max-greatest.result (λ at. cut_number table number (at + 1)) c.loop-len.invariant.each c.loop-len.invariant.entries next;
    })

pub returns-clause-bounds : goal.returns-clause-bounds
returns-clause-bounds c =
    let table = c.in_ok-filled.filled.table in
    let number : ℕ → ℕ = λ l. greatest_of (rule_tokens l) c.in_ok-filled.filled.plans.items in
    λ bound bounds len short.
    let first = c.loop-len.invariant.entries len (omega (arith, c.loop-len-test.false)) in
    let count : len + 1 ≡ suc len = omega arith in
    let plan = grammar_plan c.args.checked.now.grammar (Scores c.checked.inside.algebra) (lengths_of c.args.checked.now.sizes c.args.longest) in
    let cut = cut_number-told bound table plan c.args.longest
    (λ rule l inside low. c.in_ok-filled.ensures.entries bound (subst (λ (g : CheckedGrammar). AreScoreBounds c.args.checked.now.grammar g.algebra bound) (sym c.checked.view_is) bounds) rule l (omega (arith, c.in_ok-filled.ensures.rows)) low) len short in
    first ∙ ap (cut_number table number) count
    ∙ cut_number-same table number (λ l. tokens_number l plan) c.in_ok-filled.ensures.tokens (suc len) ∙ cut
    ∙ ap (λ n. told (score_number bound n plan len)) c.in_ok-filled.ensures.rows
    ∙ ap (λ (g : CheckedGrammar). told (score_number bound (length c.args.checked.now.grammar.rules) (grammar_plan c.args.checked.now.grammar (Scores g.algebra) (lengths_of c.args.checked.now.sizes c.args.longest)) len)) c.checked.view_is
