use Rattle.adp_model.proofs.BoundTables.{score_bound_exists, score_bound_unique, node_bound_exists, node_bound_unique}
use Rattle.adp_model.proofs.laws.bounds.words_have_one_bound.Goals as goal

pub returns : goal.returns
returns c = record {
  score = score_bound_exists;
  one_score = score_bound_unique;
  node = node_bound_exists;
  one_node = node_bound_unique;
}
