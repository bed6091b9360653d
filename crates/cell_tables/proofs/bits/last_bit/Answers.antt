use Rattle.std.proofs.Common.{refl, arith}
use Rattle.cell_tables.proofs.SetBits.{last_place}
use Rattle.cell_tables.proofs.bits.last_bit.Goals as goal

pub returns-clause-set : goal.returns-clause-set
returns-clause-set c = (last_place c.args.bits c.args.number _ (omega arith) (omega arith) refl).0

pub returns-clause-last : goal.returns-clause-last
returns-clause-last c = (last_place c.args.bits c.args.number _ (omega arith) (omega arith) refl).1
