use Rattle.cell_demands.proofs.TailNotes.{looked_up, some_like}
use Rattle.cell_demands.proofs.tails.Tails.notes_to.Goals as goal

pub returns : goal.returns
returns c =
    some_like c.notes_in.result _ _
    (λ notes there p marks all.
    looked_up p marks c.args.self.now c.in-Some.kept c.in-Some.is c.args.tail c.in-Some-place.place
    c.in-Some-place.ensures c.index.result.now c.index.ensures c.args.to all notes.now there)
    c.notes_in.ensures
