use Rattle.adp_model.proofs.WellFormedParts.{HasFewArguments-formed}
use Rattle.adp_model.proofs.KnownArguments.{known_in_alternatives}
use Rattle.adp_model.proofs.laws.well_formed.arguments_are_few_and_known.Goals as goal

pub returns : goal.returns
returns c = record {
  few = HasFewArguments-formed;
  known = known_in_alternatives;
}
