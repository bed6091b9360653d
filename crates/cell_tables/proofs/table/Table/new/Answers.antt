use Rattle.std.proofs.Common.{ℕ, List, length, sym, subst, ◌∙◌, arith}
use Rattle.adp_model.specs.PosedProblem.{PosedProblem}
use Rattle.adp_model.specs.Cells.{IsCellBound}
use Rattle.cell_layouts.specs.declared.layout.Block.{Block}
use Rattle.cell_layouts.specs.declared.layout.Side.TheVariants.{Rows, Columns}
use Rattle.cell_layouts.specs.Layout.{ArePlaced}
use Rattle.cell_tables.specs.Tables.{AreCells}
use Rattle.cell_tables.proofs.CountedSpans.{blocks_in_grid, counted_value}
use Rattle.cell_tables.proofs.Tables.{new_cells}
use Rattle.cell_tables.proofs.table.Table.new.Goals as goal

pub invariant_of-result : goal.invariant_of-result
invariant_of-result g c =
    let p = c.args.layout.now in
    let grammar = p.grammar in
    let len = length p.word in
    let rows = c.in_ok-rows in
    let columns = c.in_ok-columns in
    let P : List Block → Type 0 = ArePlaced grammar len in
    let N : ℕ → Type 0 = IsCellBound grammar len in
    let A : PosedProblem → Type 0 = λ q. AreCells (record { problem = q; rows = rows.rows; columns = columns.columns }) in
    subst A (sym c.problem.ensures)
    (new_cells p rows.rows columns.columns
    (record {
      ends = λ rule from first past k to. c.places_go_on.ensures.ends grammar len rule from first past k to;
      unique = λ cell a b. c.places_are_unique.ensures.place grammar len cell a b;
    })
    (rows.ensures.positions ∙ c.positions-positions.ensures.same)
    (blocks_in_grid grammar len Rows _ _ rows.rows rows.ensures.blocks rows.ensures.count c.rows.ensures.blocks)
    (subst P (sym rows.ensures.blocks) c.rows.ensures.places) (subst N (sym rows.ensures.count) c.rows.ensures.count)
    (columns.ensures.positions ∙ c.positions-positions.ensures.same)
    (blocks_in_grid grammar len Columns _ _ columns.columns columns.ensures.blocks columns.ensures.count c.columns.ensures))

pub returns-clause-rows : goal.returns-clause-rows
returns-clause-rows g c =
    let p = c.args.layout.now in
    let len = length p.word in
    let rows = c.in_ok-rows in
    let blocks = blocks_in_grid p.grammar len Rows _ _ rows.rows rows.ensures.blocks rows.ensures.count c.rows.ensures.blocks in
    λ cell counted. counted_value p.grammar len Rows rows.rows (rows.ensures.positions ∙ c.positions-positions.ensures.same)
    blocks c.args.value (λ place l. rows.ensures.values place (omega (arith, l, rows.ensures.count))) cell.rule cell.from
    cell.to counted

pub returns-clause-columns : goal.returns-clause-columns
returns-clause-columns g c =
    let p = c.args.layout.now in
    let len = length p.word in
    let columns = c.in_ok-columns in
    let blocks = blocks_in_grid p.grammar len Columns _ _ columns.columns columns.ensures.blocks columns.ensures.count c.columns.ensures in
    λ cell counted. counted_value p.grammar len Columns columns.columns (columns.ensures.positions ∙ c.positions-positions.ensures.same)
    blocks c.args.value (λ place l. columns.ensures.values place (omega (arith, l, columns.ensures.count))) cell.rule cell.to
    cell.from counted
