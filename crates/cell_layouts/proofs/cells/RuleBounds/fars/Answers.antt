use Rattle.std.proofs.Common.{◌↔◌, ℕ, ◌<◌, ◌≤◌, sym, subst}
use Rattle.cell_layouts.specs.declared.layout.Side.{Side}
use Rattle.cell_layouts.specs.CountedCells.{LeavesSpan}
use Rattle.cell_layouts.specs.Layout.{cell_at}
use Rattle.cell_layouts.proofs.cells.RuleBounds.fars.Goals as goal

pub returns-in-Rows-clause-fars : goal.returns-in-Rows-clause-fars
returns-in-Rows-clause-fars c =
    let S : Side → Type 0 = λ side. (far : ℕ)
    → LeavesSpan c.args.self c.args.len (cell_at side 0 c.args.near far).from (cell_at side 0 c.args.near far).to
    ↔ ((c.ends.result.start ≤ far) × (far < c.ends.result.end)) in
    subst S (sym c.in-Rows.is) c.ends.ensures.ends

pub returns-in-Columns-clause-fars : goal.returns-in-Columns-clause-fars
returns-in-Columns-clause-fars c =
    let S : Side → Type 0 = λ side. (far : ℕ)
    → LeavesSpan c.args.self c.args.len (cell_at side 0 c.args.near far).from (cell_at side 0 c.args.near far).to
    ↔ ((c.starts.result.start ≤ far) × (far < c.starts.result.end)) in
    subst S (sym c.in-Columns.is) c.starts.ensures.starts
