use Rattle.adp_model.proofs.Sized.{HasLength-derived, between_from_derived, within_from_derived}
use Rattle.adp_model.proofs.laws.sizes.derived_lengths_are_within_sizes.Goals as goal

pub returns-clause-lengths : goal.returns-clause-lengths
returns-clause-lengths c = HasLength-derived

pub returns-clause-between : goal.returns-clause-between
returns-clause-between c = between_from_derived

pub returns-clause-within : goal.returns-clause-within
returns-clause-within c = within_from_derived
