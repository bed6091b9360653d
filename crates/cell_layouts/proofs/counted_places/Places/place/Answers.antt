use Rattle.std.proofs.Common.{◌≡◌, ℕ, ◌+◌, ◌-◌, ◌*◌, ◌≤◌, length, get_or, sym, ap, subst, arith}
use Rattle.std.specs.Arc.{arc_value}
use Rattle.adp_model.specs.declared.cell.Cell.{Cell}
use Rattle.adp_model.specs.PosedProblem.{PosedProblem}
use Rattle.adp_model.specs.Cells.{IsCounted, IsPlaceOf}
use Rattle.cell_layouts.specs.declared.layout.Block.{Block}
use Rattle.cell_layouts.specs.declared.layout.Laid.{Laid}
use Rattle.cell_layouts.specs.declared.layout.Side.TheVariants.{Rows}
use Rattle.cell_layouts.specs.Layout.{block_in, IsCountedBlock}
use Rattle.cell_layouts.proofs.CountedBlocks.{block_is, number_below}
use Rattle.cell_layouts.proofs.PlacedBlocks.{block_placed}
use Rattle.cell_layouts.proofs.counted_places.Places.place.Goals as goal
use Rattle.cell_layouts.proofs.counted_places.Places.place.Goals.{After-index-block}

-- the cell is counted, seen from within
counted : (c : After-index-block)
    → IsCounted c.self.inside.problem.now.grammar (length c.self.inside.problem.now.word) c.args.cell
counted c =
    let C : PosedProblem → Type 0 = λ q. IsCounted q.grammar (length q.word) c.args.cell in
    subst C (sym c.self.view_is) c.requires

-- the block that is read is that of the cell's rule and start
read : (c : After-index-block)
    → block_in (arc_value c.self.inside.rows).blocks.items (length c.self.inside.problem.now.word) c.args.cell.rule
    c.args.cell.from ≡ c.index-block.result.now
read c =
    let p = c.self.inside.problem.now in
    let cell : Cell = c.args.cell in
    let block = c.index-block.result.now in
    let is = counted c in
    let letters = ap length c.letters.ensures.word in
    let index = ap (λ n. cell.rule * (n + 1) + cell.from) letters in
    let R : Laid → Type 0 = λ laid. block
    ≡ get_or laid.blocks.items (cell.rule * (length c.letters.result.now + 1) + cell.from) block in
    block_is p.grammar (length p.word) cell.rule cell.from _ _ block c.self.invariant.each is.rule
    (omega (arith, is.in_order, is.in_word)) index (subst R c.deref.ensures c.index-block.ensures)

block : (c : After-index-block)
    → IsCountedBlock c.self.inside.problem.now.grammar (length c.self.inside.problem.now.word) Rows c.args.cell.rule
    c.args.cell.from c.index-block.result.now
block c =
    let p = c.self.inside.problem.now in
    let cell : Cell = c.args.cell in
    let is = counted c in
    let within : cell.from ≤ length p.word = omega (arith, is.in_order, is.in_word) in
    subst (IsCountedBlock p.grammar (length p.word) Rows cell.rule cell.from) (read c)
    (c.self.invariant.are cell.rule cell.from within
    (number_below p.grammar (length p.word) cell.rule cell.from is.rule within))

place_is : (c : After-index-block)
    → IsPlaceOf c.self.inside.problem.now.grammar (length c.self.inside.problem.now.word) c.args.cell
    (c.index-block.result.now.place + (c.args.cell.to - c.index-block.result.now.first))
place_is c =
    let p = c.self.inside.problem.now in
    let len = length p.word in
    let laid = arc_value c.self.inside.rows in
    let cell : Cell = c.args.cell in
    let there : Block = c.index-block.result.now in
    let is = counted c in
    let go_on = c.places_go_on.ensures in
    let placed = block_placed p.grammar len laid.blocks.items laid.count c.self.invariant
    (go_on.starts p.grammar len) (go_on.rules p.grammar len) (go_on.first p.grammar len) cell.rule cell.from is.rule
    (omega (arith, is.in_order, is.in_word)) in
    let P : Block → Type 0 = λ b. IsPlaceOf p.grammar len (record { rule = cell.rule; from = cell.from; to = 0 }) b.place in
    let range = ((block c).fars cell.to).0 is in
    go_on.ends p.grammar len cell.rule cell.from there.first there.past there.place cell.to (block c).fars
    (subst P (read c) placed) range.0 (omega (arith, range.1))

pub overflow_sub-cell : goal.overflow_sub-cell
overflow_sub-cell c =
    let at = (goal.at.overflow_sub-cell c).After-index-block in
    (((block at).fars c.args.cell.to).0 (counted at)).0

-- the same place, as callers see it
seen : (c : After-index-block) (more : ℕ) → more ≡ c.args.cell.to - c.index-block.result.now.first
    → IsPlaceOf c.args.self.now.grammar (length c.args.self.now.word) c.args.cell (c.index-block.result.now.place + more)
seen c more e =
    let P : PosedProblem → ℕ → Type 0 = λ q n. IsPlaceOf q.grammar (length q.word) c.args.cell n in
    let place = c.index-block.result.now.place in
    subst (λ n. P c.args.self.now (place + n)) (sym e)
    (subst (λ q. P q (place + (c.args.cell.to - c.index-block.result.now.first))) c.self.view_is (place_is c))

pub overflow_add-result : goal.overflow_add-result
overflow_add-result c =
    let at = (goal.at.overflow_add-result c).After-index-block in
    let p = c.self.inside.problem.now in
    let cells = c.admissible.ensures.limits.cells in
    let place = c.index-block.result.now.place + (c.args.cell.to - c.index-block.result.now.first) in
    let below = c.places_fill_the_bound.ensures.below p.grammar (length p.word) c.args.cell place cells.0 (counted at)
    (place_is at) cells.1 in
    omega (arith, below, cells.2, c.from.ensures)

pub returns-clause-place : goal.returns-clause-place
returns-clause-place c = seen (goal.at.returns-clause-place c).After-index-block c.from.result c.from.ensures

pub returns-clause-below : goal.returns-clause-below
returns-clause-below c = λ bound counts.
    let at = (goal.at.returns-clause-below c).After-index-block in
    let p = c.args.self.now in
    c.places_fill_the_bound.ensures.below p.grammar (length p.word) c.args.cell _ bound c.requires
    (seen at c.from.result c.from.ensures) counts
