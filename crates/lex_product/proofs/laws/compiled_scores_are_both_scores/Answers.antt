use Rattle.lex_product.proofs.PairLaw.{both_scores}
use Rattle.lex_product.proofs.laws.compiled_scores_are_both_scores.Goals as goal

pub returns : goal.returns
returns c = both_scores (record {
  bounded = c.words_keep_their_score_bound.ensures.score;
  rules = c.alternatives_fit.ensures.rule;
  signs = c.alternatives_fit.ensures.sign;
  terms = c.terms_fit_their_signs.ensures.terms;
  fits = c.terms_fit_their_signs.ensures.fit;
})
