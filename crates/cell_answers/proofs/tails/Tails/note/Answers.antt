use Rattle.std.proofs.Common.{Option, sym, subst}
use Rattle.std.specs.Prelude.{IfSome}
use Rattle.cell_answers.specs.declared.tails.TailRow.{TailRow}
use Rattle.cell_answers.specs.declared.tails.TailRows.{TailRows}
use Rattle.cell_answers.specs.declared.tails.Tails.TheInside.{Inside}
use Rattle.cell_answers.specs.Tails.{IsTailTotal}
use Rattle.cell_answers.specs.TailRows.{AreTrueRows, IsNoted}
use Rattle.cell_answers.specs.TailsFields.{AreTrue}
use Rattle.cell_answers.proofs.TailNotes.{put_true, read_row}
use Rattle.cell_answers.proofs.tails.Tails.note.Goals as goal
use Rattle.cell_answers.proofs.tails.Tails.note.Goals.{in-Some+in-Some-place, in-Some+in_default-place, in_default}

pub invariant_of-self : goal.invariant_of-self
invariant_of-self c =
    let I : Inside → Type 0 = AreTrue in
    let p = c.self.inside.problem.now in
    let K : Option TailRows → Type 0 = λ kept. IfSome kept (λ kept. AreTrueRows p kept.rows.items) in
    elim c.match-self.branch [
      | in-Some+in-Some-place w ↦
          let place = w.in-Some-place.place in
          let rows = w.in-Some.kept.rows.items in
          let it = w.in-Some-place.ensures in
          let R : TailRow → Type 0 = λ row. IsNoted row w.put.new.row w.note_of-note.result in
          let noted = subst R (read_row rows place it.row w.index_mut-row.result.now it.there w.index_mut-row.ensures.value) w.put.ensures in
          let holds : AreTrueRows p rows = subst K w.in-Some.is c.self.invariant in
          subst I (sym w.self-inside-is)
          (put_true p c.args.tail c.args.from c.args.to c.args.total w.note_of-note.result w.note_of-note.ensures
          (subst (λ q. IsTailTotal q c.args.tail c.args.from c.args.to c.args.total) (sym c.self.view_is)
          c.requires) it.row w.put.new.row it.same noted rows place it.there holds)
      | in-Some+in_default-place w ↦ subst I (sym w.self-inside-is) (subst K w.in-Some.is c.self.invariant)
      | in_default w ↦ subst I (sym w.self-inside-is) c.self.invariant
    ]
