use Rattle.lex_product.proofs.PairLaw.{before_pairs, preferred_pairs}
use Rattle.lex_product.proofs.laws.compiled_scores_order_trees_as_pairs_do.Goals as goal

pub returns-clause-before : goal.returns-clause-before
returns-clause-before c = before_pairs (record {
  bounded = c.words_keep_their_score_bound.ensures.score;
  rules = c.alternatives_fit.ensures.rule;
  signs = c.alternatives_fit.ensures.sign;
  terms = c.terms_fit_their_signs.ensures.terms;
  fits = c.terms_fit_their_signs.ensures.fit;
})

pub returns-clause-preferred : goal.returns-clause-preferred
returns-clause-preferred c = preferred_pairs (record {
  bounded = c.words_keep_their_score_bound.ensures.score;
  rules = c.alternatives_fit.ensures.rule;
  signs = c.alternatives_fit.ensures.sign;
  terms = c.terms_fit_their_signs.ensures.terms;
  fits = c.terms_fit_their_signs.ensures.fit;
})
