use Rattle.adp_model.proofs.SizeNumbers.{IsLeastSize_unique, IsGreatestSize_unique}
use Rattle.adp_model.proofs.laws.sizes.sizes_are_unique.Goals as goal

pub returns-clause-least : goal.returns-clause-least
returns-clause-least c = IsLeastSize_unique

pub returns-clause-greatest : goal.returns-clause-greatest
returns-clause-greatest c = IsGreatestSize_unique
