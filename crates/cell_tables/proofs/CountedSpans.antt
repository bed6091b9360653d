-- Spans whose blocks are those of counted cells: exactly these cells have values.
use Rattle.std.proofs.Common.{◌≡◌, ℕ, ◌+◌, ◌*◌, ◌<◌, ◌≤◌, Some, List, length, get_or, slice_get, sym, ap, subst, ◌∙◌, arith}
use Rattle.std.specs.Prelude.{IsSome}
use Rattle.std.proofs.lemmas.Nat.{mul-add-lt}
use Rattle.adp_model.specs.declared.grammar.Grammar.{Grammar}
use Rattle.adp_model.specs.Cells.{IsCounted}
use Rattle.cell_layouts.specs.declared.layout.Block.{Block}
use Rattle.cell_layouts.specs.declared.layout.Side.{Side}
use Rattle.cell_layouts.specs.declared.layout.Side.TheVariants.{Rows, Columns}
use Rattle.cell_layouts.specs.Layout.{cell_at, block_in, IsCountedBlock, AreCountedBlocks}
use Rattle.cell_tables.specs.Spans.{Spans, Stands, block_at, place_of, value_at}
use Rattle.cell_tables.proofs.Values.{nothing, number_in, place_within, value_standing, standing_has, stands_where_some}

pub near_within : (grammar : Grammar) (len : ℕ) (side : Side) (rule near far : ℕ) → IsCounted grammar len (cell_at side rule near far) → (rule < length grammar.rules) × (near ≤ len)
near_within grammar len Rows rule near far counted = (counted.rule, omega (arith, counted.in_order, counted.in_word))
near_within grammar len Columns rule near far counted = (counted.rule, counted.in_word)

-- the blocks of a grid that was made of these
pub blocks_in_grid : {V : Type 0} (grammar : Grammar) (len : ℕ) (side : Side) (blocks : List Block) (count : ℕ) (grid : Spans V) → grid.blocks ≡ blocks → length grid.values ≡ count
    → AreCountedBlocks grammar len side count blocks → AreCountedBlocks grammar len side (length grid.values) grid.blocks
blocks_in_grid grammar len side blocks count grid same many are =
    subst (λ items. AreCountedBlocks grammar len side (length grid.values) items) (sym same) (subst (λ n. AreCountedBlocks grammar len side n blocks) (sym many) are)

module _ {V : Type 0} (grammar : Grammar) (len : ℕ) (side : Side) (spans : Spans V) (positions : spans.positions ≡ len + 1) (blocks : AreCountedBlocks grammar len side (length spans.values) spans.blocks) where
  block_is : (rule near : ℕ) → block_at spans rule near ≡ block_in spans.blocks len rule near
  block_is rule near = ap (λ n. get_or spans.blocks (rule * n + near) nothing) positions

  counted_there : (rule near far : ℕ) → Stands spans rule near far → IsCountedBlock grammar len side rule near (block_at spans rule near)
  counted_there rule near far s =
      let index : rule * spans.positions + near ≡ rule * (len + 1) + near = ap (λ n. rule * n + near) positions in
      let inside : rule * (len + 1) + near < length grammar.rules * (len + 1) = omega (arith, index, number_in spans rule near far s, blocks.each) in
      subst (IsCountedBlock grammar len side rule near) (sym (block_is rule near)) (blocks.are rule near (omega (arith, s.near_in, positions)) inside)

  pub stands_counted : (rule near far : ℕ) → Stands spans rule near far → IsCounted grammar len (cell_at side rule near far)
  stands_counted rule near far s = ((counted_there rule near far s).fars far).1 (s.low, s.high)

  pub counted_stands : (rule near far : ℕ) → IsCounted grammar len (cell_at side rule near far) → Stands spans rule near far
  counted_stands rule near far counted =
      let within = near_within grammar len side rule near far counted in
      let inside : rule * (len + 1) + near < (len + 1) * length grammar.rules = mul-add-lt rule (len + 1) near (length grammar.rules) within.0 (omega (arith, within.1)) in
      let below : rule * (len + 1) + near < length grammar.rules * (len + 1) = omega (arith, inside) in
      let there = subst (IsCountedBlock grammar len side rule near) (sym (block_is rule near)) (blocks.are rule near within.1 below) in
      let range = (there.fars far).0 counted in
      record { near_in = omega (arith, within.1, positions); low = range.0; high = range.1 }

  pub some_counted : (rule near far : ℕ) → IsSome (value_at spans rule near far) → IsCounted grammar len (cell_at side rule near far)
  some_counted rule near far some = stands_counted rule near far (stands_where_some spans rule near far some)

  pub counted_some : (rule near far : ℕ) → IsCounted grammar len (cell_at side rule near far) → IsSome (value_at spans rule near far)
  counted_some rule near far counted = standing_has spans rule near far blocks.laid (counted_stands rule near far counted)

  -- where all values are one, each counted cell has it
  pub counted_value : (value : V) → ((place : ℕ) → place < length spans.values → slice_get spans.values place ≡ Some value)
      → (rule near far : ℕ) → IsCounted grammar len (cell_at side rule near far) → value_at spans rule near far ≡ Some value
  counted_value value same rule near far counted =
      let s = counted_stands rule near far counted in
      value_standing spans rule near far s ∙ same (place_of spans rule near far) (place_within spans rule near far blocks.laid s)
