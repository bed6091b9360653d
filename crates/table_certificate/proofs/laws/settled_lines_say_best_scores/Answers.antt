use Rattle.table_certificate.proofs.SettledLines.{settled_line}
use Rattle.table_certificate.proofs.laws.settled_lines_say_best_scores.Goals as goal

pub returns : goal.returns
returns c = λ p admissible lines cell best score earlier here good said order. settled_line (record {
  bellman = c.bellman.ensures.admissible;
  unique = c.answer_is_unique.ensures;
  best = c.preferred_tree_has_the_best_score.ensures;
  counted = c.demanded_cells_are_counted.ensures;
  ends = c.derived_trees_span_their_cell.ensures.ends;
  bounded = c.words_keep_their_score_bound.ensures.magnitude;
  few = c.arguments_are_few_and_known.ensures.few;
  some = c.alternatives_fit.ensures.arguments;
}) p admissible lines cell here said best score earlier good order
