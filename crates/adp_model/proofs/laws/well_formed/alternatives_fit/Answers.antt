use Rattle.adp_model.proofs.KnownRules.{rule_known}
use Rattle.adp_model.proofs.WellFormedParts.{alternatives-some, alternatives-few, sign-known, some_arguments-formed}
use Rattle.adp_model.proofs.laws.well_formed.alternatives_fit.Goals as goal

pub returns : goal.returns
returns c = record {
  some = alternatives-some;
  few = alternatives-few;
  rule = rule_known;
  sign = sign-known;
  arguments = some_arguments-formed;
}
