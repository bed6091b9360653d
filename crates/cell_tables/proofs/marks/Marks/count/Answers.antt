use Rattle.std.proofs.Common.{◌<◌, arith, inl}
use Rattle.adp_model.specs.Demand.{IsDemanded}
use Rattle.cell_tables.specs.Marks.{IsMarkedInRow}
use Rattle.cell_tables.proofs.CellCounts.{next_rule, same_count}
use Rattle.cell_tables.proofs.marks.Marks.count.Goals as goal

pub loop-rule-preserved : goal.loop-rule-preserved
loop-rule-preserved c = record {
  counted = next_rule (IsMarkedInRow c.args.self.now) c.loop-rule.rule c.loop-rule.count c.count_rule-count.result c.loop-rule.invariant.counted c.count_rule-count.ensures.count;
  few = omega (arith, c.loop-rule.invariant.few, c.count_rule-count.ensures.few);
}

pub returns : goal.returns
returns c =
    let marks = c.args.self.now in
    same_count (λ cell. IsMarkedInRow marks cell × (cell.rule < c.loop-rule.rule)) (IsDemanded marks.problem) (λ cell. (
      λ (row, low). (c.requires cell).0 row,
      λ demanded.
          let row = (c.requires cell).1 demanded in
          let counted = c.cells.ensures.counted cell (inl row) in
          (row, omega (arith, counted.rule, c.rules-rule-end.ensures.same, c.loop-rule-test.false)),
    )) c.loop-rule.count c.loop-rule.invariant.counted
