use Rattle.table_certificate.proofs.ToldScores.{told_scores_are_best}
use Rattle.table_certificate.proofs.laws.right_certificates_tell_best_scores.Goals as goal

pub returns : goal.returns
returns c = told_scores_are_best (record {
  bellman = c.bellman.ensures.admissible;
  falls = c.heights_fall.ensures.falls;
  unique = c.answer_is_unique.ensures;
  best = c.preferred_tree_has_the_best_score.ensures;
  sizes = c.sizes_are_the_checked_numbers.ensures;
  axiom_known = c.numbers_fit_together.ensures.axiom_known;
  within = c.derived_lengths_are_within_sizes.ensures.within;
})
