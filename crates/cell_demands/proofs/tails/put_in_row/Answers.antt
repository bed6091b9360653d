use Rattle.std.proofs.Common.{refl, arith}
use Rattle.std.specs.Vec.{with_item}
use Rattle.std.proofs.lemmas.Option.{slice_get_read}
use Rattle.cell_demands.specs.declared.tails.TailRow.{TailRow}
use Rattle.cell_demands.proofs.TailNotes.{noted_after, put_noted}
use Rattle.cell_demands.proofs.tails.put_in_row.Goals as goal

pub returns-then-to-len : goal.returns-then-to-len
returns-then-to-len c =
    let made = c.make_ends.new.row in
    let end = c.index_mut-end.result.now in
    let new : TailRow = record { tail = made.tail; ends = with_item made.ends c.args.to c.put.new.end } in
    let there = slice_get_read made.ends.items c.len.result c.args.to end (omega (arith, made.ends.ok.0)) c.if-to-len.true c.index_mut-end.ensures.value in
    noted_after c.args.row.now made new c.args.from c.args.to c.args.is_laid c.make_ends.ensures.tail c.make_ends.ensures.notes
    (put_noted made new c.args.from c.args.to c.args.is_laid end c.put.new.end refl there refl c.put.ensures)
