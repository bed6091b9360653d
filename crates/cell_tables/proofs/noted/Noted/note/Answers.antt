use Rattle.std.proofs.Common.{◌↔◌, ◌⊎◌, ◌≡◌, sym, subst}
use Rattle.std.specs.Prelude.{length}
use Rattle.adp_model.specs.declared.cell.Cell.{Cell}
use Rattle.adp_model.specs.Cells.{IsCounted}
use Rattle.cell_tables.specs.Noted.{IsNoted, Notes}
use Rattle.cell_tables.proofs.NotedCells.{noted_now, notes_kept}
use Rattle.cell_tables.proofs.noted.Noted.note.Goals as goal

pub invariant_of-self : goal.invariant_of-self
invariant_of-self c =
    let inside = c.self.inside in
    let old : Notes = record { problem = inside.problem.now; rows = inside.rows; columns = inside.columns } in
    let C : Notes → Type 0 = λ notes. IsCounted notes.problem.grammar (length notes.problem.word) c.args.cell in
    notes_kept old c.set_bit.new.self c.set_bit-2.new.self c.args.cell c.set_bit.ensures c.set_bit-2.ensures
    c.self.invariant (subst C (sym c.self.view_is) c.requires)

pub returns-clause-noted : goal.returns-clause-noted
returns-clause-noted c =
    let inside = c.self.inside in
    let old : Notes = record { problem = inside.problem.now; rows = inside.rows; columns = inside.columns } in
    let new : Notes = record old { rows = c.set_bit.new.self; columns = c.set_bit-2.new.self } in
    let N : Notes → Type 0 = λ notes. (other : Cell)
    → IsNoted new other ↔ (IsNoted notes other ⊎ (other ≡ c.args.cell)) in
    subst N c.self.view_is
    (noted_now old c.set_bit.new.self c.set_bit-2.new.self c.args.cell c.set_bit.ensures c.set_bit-2.ensures)
