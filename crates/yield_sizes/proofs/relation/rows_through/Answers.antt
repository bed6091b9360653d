use Rattle.std.proofs.Common.{Bool, List, ◌∙◌}
use Rattle.yield_sizes.specs.Relations.{row_through}
use Rattle.yield_sizes.proofs.Closures.{rows_more, rows_whole}
use Rattle.yield_sizes.proofs.relation.rows_through.Goals as goal

pub loop-row-preserved : goal.loop-row-preserved
loop-row-preserved c =
    let beyond = c.as_slice-beyond.result.now in
    ◌∙◌ {A = List (List Bool)} c.in_ok-push.ensures.items (rows_more (λ row. row_through row beyond c.args.between) c.args.rows.now c.loop-row.row-index c.loop-row.new.items c.row-item.result c.as_slice.result.now c.new.result c.loop-row.invariant c.loop-row-test.true c.row-item.is c.as_slice.ensures (◌∙◌ {A = List Bool} c.new.ensures c.in_ok-longer.ensures))

pub returns : goal.returns
returns c =
    rows_whole c.args.rows.now c.args.between c.loop-row.row-index c.loop-row.new.items c.as_slice-beyond.result.now c.index-rows-between.result c.requires.within c.as_slice-beyond.ensures c.index-rows-between.is c.loop-row.invariant c.loop-row-test.false
