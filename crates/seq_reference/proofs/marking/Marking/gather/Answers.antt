use Rattle.std.proofs.Common.{sym, subst}
use Rattle.cell_tables.specs.Marks.{CellMarks, IsMarked}
use Rattle.seq_reference.proofs.marking.Marking.gather.Goals as goal

pub returns-clause-gathered : goal.returns-clause-gathered
returns-clause-gathered c = λ cell (here, marked).
    let M : CellMarks → Type 0 = λ marks. IsMarked marks cell in
    c.gather.ensures.gathered cell (here, subst M (sym c.self.view_is) marked)
