use Rattle.table_certificate.proofs.Certified.{right_written}
use Rattle.table_certificate.proofs.LongTexts.{long_written}
use Rattle.table_certificate.proofs.laws.written_certificates_are_right.Goals as goal

pub returns-clause-right : goal.returns-clause-right
returns-clause-right c = right_written (record {
  counted = c.demanded_cells_are_counted.ensures;
  few = c.demanded_cells_are_within_the_cell_bound.ensures;
  bounded = c.words_keep_their_score_bound.ensures.score;
  names = c.parts_have_names.ensures.rules;
}) c.written_lines_are_right.ensures.whole

pub returns-clause-long : goal.returns-clause-long
returns-clause-long c = long_written
