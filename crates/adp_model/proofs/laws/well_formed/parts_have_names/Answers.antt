use Rattle.adp_model.proofs.FormedNames.{sign_has_name, algebra_has_name, rule_has_name}
use Rattle.adp_model.proofs.laws.well_formed.parts_have_names.Goals as goal

pub returns : goal.returns
returns c = record {
  signs = sign_has_name;
  algebras = algebra_has_name;
  rules = rule_has_name;
}
