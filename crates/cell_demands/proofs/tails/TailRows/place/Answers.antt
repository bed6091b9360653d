use Rattle.std.proofs.Common.{sym, ◌∙◌, arith}
use Rattle.std.proofs.lemmas.Option.{slice_get_read}
use Rattle.cell_demands.proofs.TailNotes.{same_tail}
use Rattle.cell_demands.proofs.tails.TailRows.place.Goals as goal

pub returns-then-eq : goal.returns-then-eq
returns-then-eq c = record {
  row = c.index-row.result.now;
  there = slice_get_read c.args.self.now.rows.items c.len.result c.saturating_add-place.result c.index-row.result.now
      (omega (arith, c.args.self.now.rows.ok.0)) c.if-place-len.false c.index-row.ensures;
  same = same_tail c.index-row.result.now.tail c.args.tail (sym c.eq.ensures ∙ c.if-eq.true);
}
