use Rattle.cell_demands.proofs.PlaceBits.{one_word_more}
use Rattle.cell_demands.proofs.bits.set_within.Goals as goal

pub returns : goal.returns
returns c = one_word_more c.args.bits.now c.args.first c.args.past c.requires.some c.requires.one c.requires.there
