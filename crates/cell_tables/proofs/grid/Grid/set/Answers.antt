use Rattle.std.proofs.Common.{◌≡◌, ◌+◌, ◌-◌, set, sym, subst}
use Rattle.std.specs.Prelude.{IsSome}
use Rattle.cell_tables.specs.GridFields.{grid_spans}
use Rattle.cell_tables.specs.Spans.{Spans, IsWritten, block_at, value_at}
use Rattle.cell_tables.proofs.Values.{stands_where_some, written_value, with_values}
use Rattle.cell_tables.proofs.grid.Grid.set.Goals as goal

pub returns-in-Some : goal.returns-in-Some
returns-in-Some g c =
    let rule = c.args.rule in
    let near = c.args.near in
    let far = c.args.far in
    let value = c.args.value in
    let block = c.in-Some.block in
    let inner : Spans g.row.V.Denot = grid_spans c.self.inside in
    let is : inner ≡ c.args.self.now = c.self.view_is in
    let B : Spans g.row.V.Denot → Type 0 = λ spans. block ≡ block_at spans rule near in
    let S : Spans g.row.V.Denot → Type 0 = λ spans. IsSome (value_at spans rule near far) in
    let W : Spans g.row.V.Denot → Type 0 = λ spans. IsWritten spans (with_values inner (set inner.values (block.place + (far - block.first)) value)) rule near far value in
    let stands = stands_where_some inner rule near far (subst S (sym is) c.requires) in
    subst W is (written_value inner c.self.invariant rule near block (subst B (sym is) c.in-Some.ensures.1) far value stands)

pub returns-in_default : goal.returns-in_default
returns-in_default g c = absurd (c.in_default.ensures c.args.far (stands_where_some c.args.self.now c.args.rule c.args.near c.args.far c.requires))
