use Rattle.adp_model.proofs.WellFormedParts.{axiom-formed, rules-few, named-formed, runs-formed, bounds-formed}
use Rattle.adp_model.proofs.laws.well_formed.numbers_fit_together.Goals as goal

pub returns : goal.returns
returns c = record {
  few_rules = rules-few;
  axiom_known = axiom-formed;
  named_known = named-formed;
  runs_in_order = runs-formed;
  sizes_fit = bounds-formed;
}
