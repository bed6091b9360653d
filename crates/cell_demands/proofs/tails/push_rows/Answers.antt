use Rattle.std.proofs.Common.{List, sym, subst}
use Rattle.cell_demands.specs.declared.tails.TailRow.{TailRow}
use Rattle.cell_demands.specs.TailNotes.{AreEmpty}
use Rattle.cell_demands.proofs.TailNotes.{empty_pushed}
use Rattle.cell_demands.proofs.tails.push_rows.Goals as goal

pub loop-count-preserved : goal.loop-count-preserved
loop-count-preserved c =
    let row : TailRow = record { tail = record { rule = c.args.rule; alt = c.loop-alt.alt; count = c.loop-count.count }; ends = c.new.result } in
    let R : List TailRow → Type 0 = AreEmpty in
    subst R (sym {A = List TailRow} c.in_ok-push.ensures.items)
    (empty_pushed c.loop-count.rows.items row c.loop-count.invariant c.new.ensures.items)
