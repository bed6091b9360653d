use Rattle.std.proofs.Common.{◌≡◌, ◌<◌, ℕ, Bool, List, length, sym, subst, ◌∙◌, arith}
use Rattle.std.specs.List.{list_any}
use Rattle.adp_model.specs.declared.grammar.Alt.{Alt}
use Rattle.adp_model.specs.Sizes.{Names}
use Rattle.yield_sizes.specs.ArgumentTests.{has_rule}
use Rattle.yield_sizes.specs.Relations.{IsTableOf}
use Rattle.yield_sizes.proofs.ArgumentFacts.{answers_of, answers_more, answers_whole, references_table}
use Rattle.yield_sizes.proofs.references.references.Goals as goal

pub loop-rule-preserved : goal.loop-rule-preserved
loop-rule-preserved c =
    let items = c.as_slice-rules.result.now in
    let i = c.loop-rule.rule-index in
    let inside : i < length items = omega arith in
    let test : ℕ → List Alt → Bool = λ other alternatives. list_any (has_rule other) alternatives in
    ◌∙◌ {A = List (List Bool)} c.in_ok-push.ensures.items (answers_more test (length items) i items c.loop-rule.rows.items c.rule-item.result c.as_slice.result.now c.new.result c.loop-rule.invariant inside c.rule-item.is c.as_slice.ensures (◌∙◌ {A = List Bool} c.new.ensures c.in_ok-row.ensures))

pub returns : goal.returns
returns c =
    let grammar = c.args.grammar.now in
    let items = c.as_slice-rules.result.now in
    let test : ℕ → List Alt → Bool = λ other alternatives. list_any (has_rule other) alternatives in
    let whole : c.loop-rule.rows.items ≡ answers_of test (length grammar.rules) grammar.rules = answers_whole test grammar items c.loop-rule.rule-index c.loop-rule.rows.items c.as_slice-rules.ensures c.loop-rule.invariant (omega arith) in
    let P : List (List Bool) → Type 0 = IsTableOf (length grammar.rules) (Names grammar) in
    subst P (sym whole) (references_table grammar (c.numbers_fit_together.ensures.named_known grammar c.requires))
