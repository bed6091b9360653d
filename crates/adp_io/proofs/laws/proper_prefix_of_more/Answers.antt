use Rattle.adp_io.proofs.Told.{proper_prefix_of}
use Rattle.adp_io.proofs.laws.proper_prefix_of_more.Goals as goal

pub returns : goal.returns
returns c = proper_prefix_of
