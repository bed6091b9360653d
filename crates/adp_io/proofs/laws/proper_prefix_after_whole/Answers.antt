use Rattle.adp_io.proofs.Told.{proper_prefix_after}
use Rattle.adp_io.proofs.laws.proper_prefix_after_whole.Goals as goal

pub returns : goal.returns
returns c = proper_prefix_after
