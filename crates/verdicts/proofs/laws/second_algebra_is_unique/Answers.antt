use Rattle.verdicts.proofs.OneVerdict.{one_second}
use Rattle.verdicts.proofs.laws.second_algebra_is_unique.Goals as goal

pub returns : goal.returns
returns c = one_second
