use Rattle.std.proofs.Common.{length}
use Rattle.cell_demands.proofs.PlaceBits.{none_set}
use Rattle.cell_demands.proofs.bits.clear.Goals as goal

pub returns-clause-clear : goal.returns-clause-clear
returns-clause-clear c = none_set _ (length c.args.bits.now) (c.fill.ensures.after (λ y same. same))
