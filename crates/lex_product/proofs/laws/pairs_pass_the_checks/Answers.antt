use Rattle.lex_product.specs.CompiledGrammar.{multiplier_of}
use Rattle.lex_product.proofs.Pairs.{IsChecked-other}
use Rattle.lex_product.proofs.Compiled.{IsChecked-compiled, fitting_terms}
use Rattle.lex_product.proofs.laws.pairs_pass_the_checks.Goals as goal

pub returns-clause-second : goal.returns-clause-second
returns-clause-second c grammar first second least greatest ranks pair =
    IsChecked-other grammar first second least greatest ranks pair.checked pair.known c.monotone_terms_keep_order.ensures
    pair.adding

pub returns-clause-compiled : goal.returns-clause-compiled
returns-clause-compiled c grammar first second least greatest ranks pair bound low =
    let fitting = fitting_terms c.terms_fit_their_signs.ensures.terms c.terms_fit_their_signs.ensures.fit grammar
    pair.checked.well_formed in
    IsChecked-compiled grammar first second (multiplier_of bound) least greatest ranks pair.checked
    (fitting first pair.checked.algebra_known (λ sign inside. (pair.adding sign inside).0))
    (fitting second pair.known (λ sign inside. (pair.adding sign inside).1)) c.monotone_terms_keep_order.ensures low
