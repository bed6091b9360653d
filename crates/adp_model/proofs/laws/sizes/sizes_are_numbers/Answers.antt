use Rattle.adp_model.proofs.SizeNumbers.{sizes_at_numbers}
use Rattle.adp_model.proofs.laws.sizes.sizes_are_numbers.Goals as goal

pub returns : goal.returns
returns c = sizes_at_numbers
