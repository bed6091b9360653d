use Rattle.table_certificate.proofs.ToldScores.{admissible_at}
use Rattle.table_certificate.proofs.WrittenRight.{right_head, right_cell}
use Rattle.table_certificate.proofs.WrittenLocal.{written_locally_right}
use Rattle.table_certificate.proofs.laws.written_lines_are_right.Goals as goal

pub returns-clause-heads : goal.returns-clause-heads
returns-clause-heads c = λ p admissible cells demanded scores best number. right_head (record {
  bellman = c.bellman.ensures.admissible;
  unique = c.answer_is_unique.ensures;
  best = c.preferred_tree_has_the_best_score.ensures;
  counted = c.demanded_cells_are_counted.ensures;
  ends = c.derived_trees_span_their_cell.ensures.ends;
  bounded = c.words_keep_their_score_bound.ensures.magnitude;
  few = c.arguments_are_few_and_known.ensures.few;
  some = c.alternatives_fit.ensures.arguments;
}) p admissible cells demanded scores best number

pub returns-clause-cells : goal.returns-clause-cells
returns-clause-cells c = λ p admissible cells demanded scores best cell score earlier. right_cell (record {
  bellman = c.bellman.ensures.admissible;
  unique = c.answer_is_unique.ensures;
  best = c.preferred_tree_has_the_best_score.ensures;
  counted = c.demanded_cells_are_counted.ensures;
  ends = c.derived_trees_span_their_cell.ensures.ends;
  bounded = c.words_keep_their_score_bound.ensures.magnitude;
  few = c.arguments_are_few_and_known.ensures.few;
  some = c.alternatives_fit.ensures.arguments;
}) p admissible cells demanded scores best cell score earlier

pub returns-clause-whole : goal.returns-clause-whole
returns-clause-whole c = λ problems forms all blocks. written_locally_right (record {
  bellman = c.bellman.ensures.admissible;
  unique = c.answer_is_unique.ensures;
  best = c.preferred_tree_has_the_best_score.ensures;
  counted = c.demanded_cells_are_counted.ensures;
  ends = c.derived_trees_span_their_cell.ensures.ends;
  bounded = c.words_keep_their_score_bound.ensures.magnitude;
  few = c.arguments_are_few_and_known.ensures.few;
  some = c.alternatives_fit.ensures.arguments;
}) problems forms (admissible_at problems all) blocks
