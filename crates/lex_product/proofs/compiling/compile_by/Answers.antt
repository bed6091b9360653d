use Rattle.std.proofs.Common.{◌∙◌, sym, ap, subst}
use Rattle.grammar_check.specs.CheckedGrammar.{CheckedGrammar, PassesChecks}
use Rattle.lex_product.proofs.Compiled.{but_for_own, same_whole}
use Rattle.lex_product.proofs.compiling.compile_by.Goals as goal

pub with_grammar-requires : goal.with_grammar-requires
with_grammar-requires c =
    let view = c.first.view_is in
    subst PassesChecks
    (sym (same_whole c.args.first.now c.in_ok-grammar.grammar c.first.inside.algebra
    (c.in_ok-grammar.ensures ∙ ap (λ (k : CheckedGrammar). k.grammar) view) (ap (λ (k : CheckedGrammar). k.algebra) view)))
    c.passes.ensures

pub recompile_by-requires-clause-compiled : goal.recompile_by-requires-clause-compiled
recompile_by-requires-clause-compiled c =
    let view = c.first.view_is in
    but_for_own c.args.first.now c.in_ok-copy.copy (c.in_ok-copy.ensures
    ∙ same_whole c.args.first.now c.in_ok-grammar.grammar c.first.inside.algebra
    (c.in_ok-grammar.ensures ∙ ap (λ (k : CheckedGrammar). k.grammar) view) (ap (λ (k : CheckedGrammar). k.algebra) view))
