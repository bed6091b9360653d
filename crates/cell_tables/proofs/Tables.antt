-- Tables: their cells stay through writes, and what writes of marks leave marked.
use Rattle.std.proofs.Common.{◌≡◌, ℕ, zero, suc, ◌+◌, ◌-◌, ◌*◌, ◌<◌, ◌≤◌, List, [], ◌∷◌, length, get_or, slice_get, refl, sym, ap, subst, ◌∙◌, arith}
use Rattle.std.specs.Prelude.{IsSome, is_some}
use Rattle.std.proofs.lemmas.Nat.{mul-add-lt}
use Rattle.adp_model.specs.declared.grammar.Grammar.{Grammar}
use Rattle.adp_model.specs.declared.cell.Cell.{Cell}
use Rattle.adp_model.specs.PosedProblem.{PosedProblem}
use Rattle.adp_model.specs.Cells.{IsCounted, IsCellBound, IsPlaceOf, AreCountedEnds}
use Rattle.cell_layouts.specs.declared.layout.Block.{Block}
use Rattle.cell_layouts.specs.declared.layout.Side.TheVariants.{Rows, Columns}
use Rattle.cell_tables.specs.Spans.{Spans, Stands, HasSameBlocks, block_at, place_of, value_at}
use Rattle.cell_layouts.specs.Layout.{block_in, AreCountedBlocks, ArePlaced}
use Rattle.cell_tables.specs.Tables.{Table, AreCells}
use Rattle.cell_tables.proofs.Values.{nothing, stands_where_some, value_standing, is_some_at}
use Rattle.cell_tables.proofs.CountedSpans.{some_counted, counted_some}

-- ---- the cells of a new table

below : (grammar : Grammar) (len rule near : ℕ) → rule < length grammar.rules → near ≤ len → rule * (len + 1) + near < length grammar.rules * (len + 1)
below grammar len rule near known within = omega (arith, mul-add-lt rule (len + 1) near (length grammar.rules) known (omega arith))

-- how the places of the counted cells of a start go on, and that a cell has one place
pub record Numbering (grammar : Grammar) (len : ℕ) : Type 0 where
  pub ends : (rule from first past k to : ℕ) → AreCountedEnds grammar len rule from first past → IsPlaceOf grammar len (record { rule = rule; from = from; to = 0 }) k → first ≤ to → to ≤ past
      → IsPlaceOf grammar len (record { rule = rule; from = from; to = to }) (k + (to - first))
  pub unique : (cell : Cell) (a b : ℕ) → IsPlaceOf grammar len cell a → IsPlaceOf grammar len cell b → a ≡ b

module _ {V : Type 0} (p : PosedProblem) (rows columns : Spans V) (numbering : Numbering p.grammar (length p.word)) (row_positions : rows.positions ≡ length p.word + 1) (row_blocks : AreCountedBlocks p.grammar (length p.word) Rows (length rows.values) rows.blocks) (starts : ArePlaced p.grammar (length p.word) rows.blocks) (bound : IsCellBound p.grammar (length p.word) (length rows.values)) (column_positions : columns.positions ≡ length p.word + 1) (column_blocks : AreCountedBlocks p.grammar (length p.word) Columns (length columns.values) columns.blocks) where
  row_placed : (cell : Cell) (place : ℕ) → IsCounted p.grammar (length p.word) cell → IsPlaceOf p.grammar (length p.word) cell place → place_of rows cell.rule cell.from cell.to ≡ place
  row_placed cell place counted is_place =
      let g = p.grammar in
      let len = length p.word in
      let within : cell.from ≤ len = omega (arith, counted.in_order, counted.in_word) in
      let block = block_in rows.blocks len cell.rule cell.from in
      let is_block : block ≡ block_at rows cell.rule cell.from = sym (ap (λ n. get_or rows.blocks (cell.rule * n + cell.from) nothing) row_positions) in
      let fars : AreCountedEnds g len cell.rule cell.from block.first block.past = (row_blocks.are cell.rule cell.from within (below g len cell.rule cell.from counted.rule within)).fars in
      let range = (fars cell.to).0 counted in
      let there = numbering.ends cell.rule cell.from block.first block.past block.place cell.to fars (starts cell.rule cell.from counted.rule within) range.0 (omega (arith, range.1)) in
      let same : place_of rows cell.rule cell.from cell.to ≡ block.place + (cell.to - block.first) = ap (λ (b : Block). b.place + (cell.to - b.first)) (sym is_block) in
      same ∙ numbering.unique cell (block.place + (cell.to - block.first)) place there is_place

  pub new_cells : AreCells (record { problem = p; rows = rows; columns = columns })
  new_cells = record {
    rows_are = λ cell. (some_counted p.grammar (length p.word) Rows rows row_positions row_blocks cell.rule cell.from cell.to, counted_some p.grammar (length p.word) Rows rows row_positions row_blocks cell.rule cell.from cell.to);
    columns_are = λ cell. (some_counted p.grammar (length p.word) Columns columns column_positions column_blocks cell.rule cell.to cell.from, counted_some p.grammar (length p.word) Columns columns column_positions column_blocks cell.rule cell.to cell.from);
    one_each = bound;
    placed = row_placed;
  }

-- ---- the cells of a table that was written

same_block : {V : Type 0} (old new : Spans V) → HasSameBlocks old new → (rule near : ℕ) → block_at new rule near ≡ block_at old rule near
same_block old new same rule near = λ k. get_or (same.blocks k) (rule * same.positions k + near) nothing

pub same_place : {V : Type 0} (old new : Spans V) → HasSameBlocks old new → (rule near far : ℕ) → place_of new rule near far ≡ place_of old rule near far
same_place old new same rule near far = ap (λ (b : Block). b.place + (far - b.first)) (same_block old new same rule near)

some_within : {V : Type 0} (values : List V) (place : ℕ) → IsSome (slice_get values place) → place < length values
some_within [] place some = absurd cc
some_within (value ∷ values) zero some = omega arith
some_within (value ∷ values) (suc place) some = omega (arith, some_within values place some)

pub same_some : {V : Type 0} (old new : Spans V) → HasSameBlocks old new → (rule near far : ℕ) → IsSome (value_at old rule near far) → IsSome (value_at new rule near far)
same_some old new same rule near far some =
    let s = stands_where_some old rule near far some in
    let blocks = same_block old new same rule near in
    let t : Stands new rule near far = record {
      near_in = omega (arith, s.near_in, same.positions);
      low = omega (arith, s.low, ap (λ (b : Block). b.first) blocks);
      high = omega (arith, s.high, ap (λ (b : Block). b.past) blocks);
    } in
    let there : IsSome (slice_get old.values (place_of old rule near far)) = subst IsSome (value_standing old rule near far s) some in
    let within = some_within old.values (place_of old rule near far) there in
    ap is_some (value_standing new rule near far t) ∙ is_some_at new.values (place_of new rule near far) (omega (arith, same_place old new same rule near far, same.as_many, within))

back : {V : Type 0} (old new : Spans V) → HasSameBlocks old new → HasSameBlocks new old
back old new same = record { positions = sym same.positions; blocks = sym same.blocks; as_many = sym same.as_many }

pub itself : {V : Type 0} (spans : Spans V) → HasSameBlocks spans spans
itself spans = record { positions = refl; blocks = refl; as_many = refl }

pub cells_kept : {V : Type 0} (old : Table V) (rows columns : Spans V) → HasSameBlocks old.rows rows → HasSameBlocks old.columns columns → AreCells old → AreCells (record { problem = old.problem; rows = rows; columns = columns })
cells_kept old rows columns same_rows same_columns cells = record {
  rows_are = λ cell. (
    λ some. (cells.rows_are cell).0 (same_some rows old.rows (back old.rows rows same_rows) cell.rule cell.from cell.to some),
    λ counted. same_some old.rows rows same_rows cell.rule cell.from cell.to ((cells.rows_are cell).1 counted),
  );
  columns_are = λ cell. (
    λ some. (cells.columns_are cell).0 (same_some columns old.columns (back old.columns columns same_columns) cell.rule cell.to cell.from some),
    λ counted. same_some old.columns columns same_columns cell.rule cell.to cell.from ((cells.columns_are cell).1 counted),
  );
  one_each = subst (IsCellBound old.problem.grammar (length old.problem.word)) (sym same_rows.as_many) cells.one_each;
  placed = λ cell place counted is_place. same_place old.rows rows same_rows cell.rule cell.from cell.to ∙ cells.placed cell place counted is_place;
}
