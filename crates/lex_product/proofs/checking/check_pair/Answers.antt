use Rattle.std.proofs.Common.{[], length, sym, ap, ◌∙◌, arith}
use Rattle.std.proofs.lemmas.List.{get_or_read}
use Rattle.adp_model.specs.declared.grammar.Sign.{Sign}
use Rattle.grammar_check.specs.CheckedGrammar.{CheckedGrammar}
use Rattle.lex_product.proofs.Pairs.{PassesChecks-other, no_algebra, other_factor, all_add, named_so, made_pair}
use Rattle.lex_product.proofs.checking.check_pair.Goals as goal

pub returns-in_default : goal.returns-in_default
returns-in_default c =
    let view = c.first.view_is in
    no_algebra c.args.first.now c.first.inside.grammar c.first.inside.algebra (ap (λ (k : CheckedGrammar). k.grammar) view)
    (ap (λ (k : CheckedGrammar). k.algebra) view) c.args.second.now c.in_ok-fault.field-0 c.in_default.ensures c.in_ok-fault.ensures

pub returns-in-Some-first_other_factor : goal.returns-in-Some-first_other_factor
returns-in-Some-first_other_factor c =
    let view = c.first.view_is in
    other_factor c.args.first.now c.first.inside.grammar c.first.inside.algebra (ap (λ (k : CheckedGrammar). k.grammar) view)
    (ap (λ (k : CheckedGrammar). k.algebra) view) c.args.second.now c.in-Some.number c.in-Some-first_other_factor.sign c.as_slice.result.now _ c.in_ok-fault-2.field-0 c.in-Some.ensures
    c.in-Some-first_other_factor.ensures c.as_slice.ensures
    (ap (λ (s : Sign). s.name) (sym c.index-as_slice-sign.is ∙ get_or_read c.as_slice.result.now c.in-Some-first_other_factor.sign c.index-as_slice-sign.result
    (omega (arith, ap length c.as_slice.ensures, c.in-Some-first_other_factor.ensures.in_range)) c.index-as_slice-sign.is (record { name = []; kinds = [] })))
    c.in_ok-fault-2.ensures

pub with_grammar-requires : goal.with_grammar-requires
with_grammar-requires c =
    let view = c.first.view_is in
    let grammar_is = ap (λ (k : CheckedGrammar). k.grammar) view in
    PassesChecks-other c.args.first.now c.in_ok-copy.copy c.in-Some.number c.passes.ensures (c.in_ok-copy.ensures ∙ grammar_is)
    (omega (arith, ap (λ (k : CheckedGrammar). length k.grammar.algebras) view, c.in-Some.ensures.in_range)) c.monotone_terms_keep_order.ensures
    (all_add c.args.first.now c.first.inside.grammar c.first.inside.algebra grammar_is (ap (λ (k : CheckedGrammar). k.algebra) view) c.in-Some.number c.in_default-first_other_factor.ensures)

pub returns : goal.returns
returns c =
    let view = c.first.view_is in
    let grammar_is = ap (λ (k : CheckedGrammar). k.grammar) view in
    made_pair c.args.first.now c.in_ok-with_grammar.field-0 c.in_ok-copy.copy c.in-Some.number c.args.second.now (c.in_ok-copy.ensures ∙ grammar_is) c.in_ok-with_grammar.ensures
    (named_so c.args.first.now c.first.inside.grammar c.first.inside.algebra grammar_is (ap (λ (k : CheckedGrammar). k.algebra) view) c.args.second.now c.in-Some.number c.in-Some.ensures)
    (all_add c.args.first.now c.first.inside.grammar c.first.inside.algebra grammar_is (ap (λ (k : CheckedGrammar). k.algebra) view) c.in-Some.number c.in_default-first_other_factor.ensures)
