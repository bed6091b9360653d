use Rattle.cell_demands.proofs.TailNotes.{noted_at}
use Rattle.cell_demands.proofs.tails.Tails.note.Goals as goal

pub returns-in-Some-place : goal.returns-in-Some-place
returns-in-Some-place c = λ p marks all told.
    noted_at p marks c.args.self.now c.in-Some.kept c.in-Some.is c.args.tail c.in-Some-place.place
    c.in-Some-place.ensures c.index_mut-row.result.now c.index_mut-row.ensures.value c.args.to c.args.from
    c.args.is_laid all told c.put_in_row.new.row c.put_in_row.ensures
