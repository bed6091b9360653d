use Rattle.std.proofs.Common.{length, subst}
use Rattle.std.specs.Arc.{arc_value}
use Rattle.adp_model.specs.PosedProblem.{PosedProblem}
use Rattle.adp_model.specs.Cells.{IsCellBound}
use Rattle.cell_layouts.specs.Layout.{ArePlaced}
use Rattle.cell_layouts.proofs.PlacedBlocks.{all_counted, block_placed}
use Rattle.cell_layouts.proofs.layout.Layout.rows.Goals as goal

pub returns-clause-places : goal.returns-clause-places
returns-clause-places c =
    let p = c.self.inside.problem.now in
    let laid = arc_value c.self.inside.laid.rows in
    let go_on = c.places_go_on.ensures in
    let P : PosedProblem → Type 0 = λ q. ArePlaced q.grammar (length q.word) laid.blocks.items in
    subst P c.self.view_is
    (block_placed p.grammar (length p.word) laid.blocks.items laid.count c.self.invariant.rows
    (go_on.starts p.grammar (length p.word)) (go_on.rules p.grammar (length p.word))
    (go_on.first p.grammar (length p.word)))

pub returns-clause-count : goal.returns-clause-count
returns-clause-count c =
    let p = c.self.inside.problem.now in
    let laid = arc_value c.self.inside.laid.rows in
    let go_on = c.places_go_on.ensures in
    let P : PosedProblem → Type 0 = λ q. IsCellBound q.grammar (length q.word) laid.count in
    subst P c.self.view_is
    (all_counted p.grammar (length p.word) laid.blocks.items laid.count c.self.invariant.rows
    (go_on.starts p.grammar (length p.word)) (go_on.rules p.grammar (length p.word))
    (go_on.first p.grammar (length p.word)) (go_on.bound p.grammar (length p.word)))
