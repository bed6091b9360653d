use Rattle.std.proofs.KnownBytes.{Appends-trans}
use Rattle.adp_io.proofs.laws.whole_after_whole.Goals as goal

pub returns : goal.returns
returns c = Appends-trans
