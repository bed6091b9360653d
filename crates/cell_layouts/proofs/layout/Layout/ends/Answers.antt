use Rattle.std.proofs.Common.{◌≡◌, ◌+◌, ◌*◌, ◌<◌, ◌≤◌, length, get_or, ap, subst, arith}
use Rattle.adp_model.specs.PosedProblem.{PosedProblem}
use Rattle.cell_layouts.specs.declared.layout.Laid.{Laid}
use Rattle.cell_layouts.specs.declared.layout.Side.TheVariants.{Rows}
use Rattle.cell_layouts.specs.Layout.{IsCountedBlock}
use Rattle.cell_layouts.proofs.CountedBlocks.{block_read}
use Rattle.cell_layouts.proofs.layout.Layout.ends.Goals as goal
use Rattle.cell_layouts.proofs.layout.Layout.ends.Goals.{After-index-block}

counted : (c : After-index-block)
    → IsCountedBlock c.args.self.now.grammar (length c.args.self.now.word) Rows c.args.rule c.args.from
    c.index-block.result.now
counted c =
    let p = c.self.inside.problem.now in
    let rule = c.args.rule in
    let from = c.args.from in
    let block = c.index-block.result.now in
    let word = ap (λ (q : PosedProblem). length q.word) c.self.view_is in
    let rules = ap (λ (q : PosedProblem). length q.grammar.rules) c.self.view_is in
    let known : rule < length p.grammar.rules = omega (arith, rules, c.requires.rule) in
    let within : from ≤ length p.word = omega (arith, word, c.requires.from) in
    let positions : c.positions.result ≡ length p.word + 1 = omega (arith, word, c.positions.ensures.same) in
    let index = ap (λ n. rule * n + from) positions in
    let R : Laid → Type 0 = λ laid. block ≡ get_or laid.blocks.items (rule * c.positions.result + from) block in
    let read = subst R c.deref.ensures c.index-block.ensures in
    let B : PosedProblem → Type 0 = λ q. IsCountedBlock q.grammar (length q.word) Rows rule from block in
    subst B c.self.view_is
    (block_read p.grammar (length p.word) Rows rule from _ _ _ block c.self.invariant.rows known within index read)

pub returns-clause-ends : goal.returns-clause-ends
returns-clause-ends c = (counted (goal.at.returns-clause-ends c).After-index-block).fars

pub returns-clause-in_order : goal.returns-clause-in_order
returns-clause-in_order c = (counted (goal.at.returns-clause-in_order c).After-index-block).in_order
