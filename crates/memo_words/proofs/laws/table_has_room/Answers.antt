use Rattle.std.proofs.Common.{arith}
use Rattle.memo_words.proofs.Demands.{few_keys, few_records}
use Rattle.memo_words.proofs.laws.table_has_room.Goals as goal

pub returns-clause-keys : goal.returns-clause-keys
returns-clause-keys c = λ plan s m r count. few_keys plan s r m count

pub returns-clause-half : goal.returns-clause-half
returns-clause-half c = λ plan s m r planned count.
    let keys = few_keys plan s r m count in
    let few = c.demanded_cells_are_within_the_cell_bound.ensures plan.problem m plan.cells planned.well_formed count planned.cells in
    let enough = planned.bits.enough in omega arith

pub returns-clause-records : goal.returns-clause-records
returns-clause-records c = λ plan s m r count. few_records plan s r m count
