use Rattle.cell_tables.specs.Tables.{Table}
use Rattle.cell_tables.proofs.Tables.{cells_kept}
use Rattle.cell_tables.proofs.table.Table.put.Goals as goal

pub invariant_of-self : goal.invariant_of-self
invariant_of-self g c =
    let inner : Table g.row.V.Denot = record { problem = c.self.inside.problem.now; rows = c.self.inside.rows; columns = c.self.inside.columns } in
    cells_kept inner c.set.new.self c.set-2.new.self c.set.ensures.same c.set-2.ensures.same c.self.invariant
