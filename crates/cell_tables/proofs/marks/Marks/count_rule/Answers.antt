use Rattle.std.proofs.Common.{◌≡◌, ◌<◌, arith, inl}
use Rattle.cell_tables.specs.Marks.{IsMarkedInRow}
use Rattle.cell_tables.proofs.CellCounts.{next_start, same_count}
use Rattle.cell_tables.proofs.marks.Marks.count_rule.Goals as goal

pub loop-from-preserved : goal.loop-from-preserved
loop-from-preserved c = record {
  counted = next_start (IsMarkedInRow c.args.self.now) c.args.rule c.loop-from.from c.loop-from.count c.count_row-count.result c.loop-from.invariant.counted c.count_row-count.ensures.count;
  few = omega (arith, c.loop-from.invariant.few, c.count_row-count.ensures.few);
}

pub returns-clause-count : goal.returns-clause-count
returns-clause-count c =
    let marks = c.args.self.now in
    let rule = c.args.rule in
    same_count (λ cell. IsMarkedInRow marks cell × (cell.rule ≡ rule) × (cell.from < c.loop-from.from)) (λ cell. IsMarkedInRow marks cell × (cell.rule ≡ rule)) (λ cell. (
      λ (row, r, low). (row, r),
      λ (row, r).
          let counted = c.cells.ensures.counted cell (inl row) in
          (row, r, omega (arith, counted.in_order, counted.in_word, c.length-from-end.ensures.same, c.loop-from-test.false)),
    )) c.loop-from.count c.loop-from.invariant.counted
