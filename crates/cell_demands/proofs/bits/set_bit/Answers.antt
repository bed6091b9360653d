use Rattle.cell_demands.proofs.PlaceBits.{one_more}
use Rattle.cell_demands.proofs.bits.set_bit.Goals as goal

pub returns : goal.returns
returns c = one_more c.args.bits.now c.args.place c.requires
