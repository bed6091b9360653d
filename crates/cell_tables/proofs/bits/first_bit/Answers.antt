use Rattle.std.proofs.Common.{refl, arith}
use Rattle.cell_tables.proofs.SetBits.{first_place}
use Rattle.cell_tables.proofs.bits.first_bit.Goals as goal

pub returns-clause-set : goal.returns-clause-set
returns-clause-set c = (first_place c.args.bits c.args.number _ (omega arith) (omega arith) refl).0

pub returns-clause-first : goal.returns-clause-first
returns-clause-first c = (first_place c.args.bits c.args.number _ (omega arith) (omega arith) refl).1
