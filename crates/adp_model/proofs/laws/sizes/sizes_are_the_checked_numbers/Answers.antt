use Rattle.adp_model.proofs.SizeNumbers.{sizes_as_numbers}
use Rattle.adp_model.proofs.laws.sizes.sizes_are_the_checked_numbers.Goals as goal

pub returns : goal.returns
returns c = sizes_as_numbers
