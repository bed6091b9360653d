-- What the fields of a grid stand for.
use Rattle.std.specs.Arc.{arc_value}
use Rattle.cell_tables.specs.declared.grid.Grid.TheInside.{Inside}
use Rattle.cell_tables.specs.Spans.{Spans}

abbrev pub grid_spans : {V : Type 0} → Inside V → Spans V
grid_spans grid = record {
  positions = grid.positions;
  blocks = (arc_value grid.laid).blocks.items;
  values = grid.values.items;
}
