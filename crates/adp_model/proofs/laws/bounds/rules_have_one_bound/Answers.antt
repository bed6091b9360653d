use Rattle.adp_model.proofs.BoundTables.{score_bounds_exist, score_bounds_unique, node_bounds_exist, node_bounds_unique}
use Rattle.adp_model.proofs.laws.bounds.rules_have_one_bound.Goals as goal

pub returns : goal.returns
returns c = record {
  scores = score_bounds_exist;
  one_score = score_bounds_unique;
  nodes = λ grammar algebra. node_bounds_exist grammar algebra;
  one_node = λ grammar algebra. node_bounds_unique grammar algebra;
}
