use Rattle.std.proofs.Common.{◌≤◌, refl, sym, ap, subst, ◌∙◌, arith}
use Rattle.grammar_check.specs.CheckedGrammar.{CheckedGrammar, PassesChecks}
use Rattle.adp_model.specs.ProblemFields.{greatest_score}
use Rattle.lex_product.specs.CompiledGrammar.{compiled_grammar, greatest_compiled, multiplier_of}
use Rattle.lex_product.proofs.Compiled.{compiled_is, greatest_is, recompiled, PassesChecks-made}
use Rattle.lex_product.proofs.compiling.recompile_by.Goals as goal

pub with_algebra-requires-clause-passes : goal.with_algebra-requires-clause-passes
with_algebra-requires-clause-passes c =
    let first = c.args.first.now in
    let second = c.args.second.now in
    let g = c.first.inside.grammar in
    let own = c.first.inside.algebra in
    let other = c.second.inside.algebra in
    let m = c.joining_of-joining.result.multiplier in
    let g_is = ap (λ (k : CheckedGrammar). k.grammar) c.first.view_is in
    let own_is = ap (λ (k : CheckedGrammar). k.algebra) c.first.view_is in
    let other_is = ap (λ (k : CheckedGrammar). k.algebra) c.second.view_is in
    let algebra_is = c.in_ok-algebra.ensures
    ∙ compiled_is first second.algebra g own other m (multiplier_of c.args.bound) g_is own_is other_is c.joining_of-joining.ensures.multiplier in
    let low : greatest_compiled first.grammar first.algebra second.algebra (multiplier_of c.args.bound) ≤ greatest_score =
    omega (
      arith,
      sym (greatest_is first second.algebra g own other m
          (multiplier_of c.args.bound) g_is own_is other_is c.joining_of-joining.ensures.multiplier),
      c.greatest_compiled-greatest.ensures,
      c.if-greatest-gt-GREATEST_NUMBER.false,
    ) in
    subst PassesChecks (sym (recompiled first second c.args.compiled c.args.bound c.in_ok-algebra.algebra c.requires.compiled algebra_is))
    (PassesChecks-made first second (multiplier_of c.args.bound) first.algebra
    (compiled_grammar first.grammar first.algebra second.algebra (multiplier_of c.args.bound))
    c.terms_fit_their_signs.ensures.terms c.terms_fit_their_signs.ensures.fit c.monotone_terms_keep_order.ensures
    c.passes.ensures c.passes-2.ensures c.requires.pair low refl refl)

pub returns : goal.returns
returns c =
    let first = c.args.first.now in
    let second = c.args.second.now in
    let g = c.first.inside.grammar in
    let own = c.first.inside.algebra in
    let other = c.second.inside.algebra in
    let m = c.joining_of-joining.result.multiplier in
    let g_is = ap (λ (k : CheckedGrammar). k.grammar) c.first.view_is in
    let own_is = ap (λ (k : CheckedGrammar). k.algebra) c.first.view_is in
    let other_is = ap (λ (k : CheckedGrammar). k.algebra) c.second.view_is in
    let algebra_is = c.in_ok-algebra.ensures
    ∙ compiled_is first second.algebra g own other m (multiplier_of c.args.bound) g_is own_is other_is c.joining_of-joining.ensures.multiplier in (
      omega (
        arith,
        sym (greatest_is first second.algebra g own other m
            (multiplier_of c.args.bound) g_is own_is other_is c.joining_of-joining.ensures.multiplier),
        c.greatest_compiled-greatest.ensures,
        c.if-greatest-gt-GREATEST_NUMBER.false,
      ),
      c.with_algebra.ensures
          ∙ recompiled first second c.args.compiled c.args.bound c.in_ok-algebra.algebra c.requires.compiled algebra_is,
    )
