use Rattle.std.proofs.Common.{◌≡◌, ◌+◌, ◌-◌, ◌<◌, length, get_or, sym, subst, ◌∙◌, arith}
use Rattle.cell_tables.specs.Spans.{Spans, AreBlocks}
use Rattle.cell_tables.proofs.Values.{index_within, none_standing, read_value, stands_in}
use Rattle.cell_tables.proofs.grid.Grid.get.Goals as goal

pub returns-in_err-block : goal.returns-in_err-block
returns-in_err-block g c = c.from_residual.ensures ∙ sym (none_standing c.args.self.now c.args.rule c.args.near c.args.far (c.in_err-block.ensures c.args.far))

pub index-requires : goal.index-requires
index-requires g c =
    let now = c.args.self.now in
    let rule = c.args.rule in
    let near = c.args.near in
    let far = c.args.far in
    let block = c.in_ok-block.block in
    let L : Spans g.row.V.Denot → Type 0 = λ spans. AreBlocks spans in
    let W : Spans g.row.V.Denot → Type 0 = λ spans. block.place + (far - block.first) < length spans.values in
    let stands = stands_in now rule near far block c.in_ok-block.ensures.0 c.in_ok-block.ensures.1 c.if-far-block.false c.if-far-block-2.false in
    omega (arith, c.self.inside.values.ok.0, subst W (sym c.self.view_is) (index_within now (subst L c.self.view_is c.self.invariant) rule near block c.in_ok-block.ensures.1 far stands))

pub returns : goal.returns
returns g c =
    let now = c.args.self.now in
    let rule = c.args.rule in
    let near = c.args.near in
    let far = c.args.far in
    let block = c.in_ok-block.block in
    let value = c.index.result.now in
    let L : Spans g.row.V.Denot → Type 0 = λ spans. AreBlocks spans in
    let R : Spans g.row.V.Denot → Type 0 = λ spans. value ≡ get_or spans.values (block.place + (far - block.first)) value in
    let stands = stands_in now rule near far block c.in_ok-block.ensures.0 c.in_ok-block.ensures.1 c.if-far-block.false c.if-far-block-2.false in
    sym (read_value now (subst L c.self.view_is c.self.invariant) rule near block c.in_ok-block.ensures.1 far value stands (subst R c.self.view_is c.index.ensures))
