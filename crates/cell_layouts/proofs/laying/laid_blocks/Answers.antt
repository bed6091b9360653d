use Rattle.std.proofs.Common.{◌≡◌, ◌↔◌, ℕ, ◌+◌, ◌*◌, ◌<◌, ◌≤◌, List, length, refl, sym, ap, subst, arith}
use Rattle.adp_model.specs.PosedProblem.{PosedProblem}
use Rattle.cell_layouts.specs.declared.layout.Block.{Block}
use Rattle.cell_layouts.specs.CountedCells.{LeavesSpan}
use Rattle.cell_layouts.specs.Layout.{IsCountedBlock, AreFirstBlocks, cell_at, size_of}
use Rattle.cell_layouts.proofs.CountedBlocks.{one_more_block, blocks_recounted}
use Rattle.cell_layouts.proofs.Counting.{fars_counted}
use Rattle.cell_layouts.proofs.laying.laid_blocks.Goals as goal

pub loop-near-preserved : goal.loop-near-preserved
loop-near-preserved c =
    let p = c.args.problem.now in
    let len = length p.word in
    let rule = c.loop-rule.rule in
    let near = c.loop-near.near in
    let bounds = c.bounds_of-bounds.result in
    let fars = c.fars-fars.result in
    let positions : length c.letters-len.result.now ≡ len = ap length c.letters-len.ensures.word in
    let short : len ≤ 4000 = omega (arith, c.letters-len.ensures.few, positions) in
    let within : near ≤ len = omega (arith, positions, c.loop-near-test.true) in
    let block : Block = record { place = c.loop-near.place; first = fars.start; past = fars.end } in
    let F : ℕ → Type 0 = λ n. (far : ℕ) → LeavesSpan bounds n (cell_at c.args.side 0 near far).from (cell_at c.args.side 0 near far).to ↔ ((fars.start ≤ far) × (far < fars.end)) in
    let left = subst F positions c.fars-fars.ensures.fars in
    let new : IsCountedBlock p.grammar len c.args.side rule near block = record {
      fars = fars_counted p.grammar len c.args.side rule near fars.start fars.end bounds c.bounds_of-bounds.ensures left;
      in_order = c.fars-fars.ensures.in_order;
    } in
    let more = one_more_block p.grammar len c.args.side rule near c.loop-near.place c.loop-near.blocks.items block within c.loop-near.invariant.blocks refl new in
    let N : List Block → Type 0 = λ blocks. AreFirstBlocks p.grammar len c.args.side (rule * (len + 1) + (near + 1)) (c.loop-near.place + size_of block) blocks in
    let S : ℕ → Type 0 = λ size. AreFirstBlocks p.grammar len c.args.side (rule * (len + 1) + (near + 1)) (c.loop-near.place + size) c.push.new.self.items in
    record {
      blocks = subst S (sym c.from-place.ensures) (subst N (sym {A = List Block} c.in_ok-push.ensures.items) more);
      few = omega (arith, c.from-place.ensures, c.fars-fars.ensures.in_word, positions, short, c.loop-near.invariant.few);
    }

pub returns : goal.returns
returns c =
    let p = c.args.problem.now in
    let len = length p.word in
    let rules : length c.problem.inside.grammar.now.rules ≡ length p.grammar.rules = ap (λ (q : PosedProblem). length q.grammar.rules) c.problem.view_is in
    let whole : c.loop-rule.rule ≡ length p.grammar.rules = omega (arith, ap length c.as_slice-rules.ensures, rules) in
    blocks_recounted p.grammar len c.args.side (c.loop-rule.rule * (len + 1)) (length p.grammar.rules * (len + 1)) c.loop-rule.place c.loop-rule.blocks.items (ap (λ n. n * (len + 1)) whole) c.loop-rule.invariant.blocks
