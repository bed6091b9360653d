use Rattle.std.proofs.Common.{List, length, subst}
use Rattle.std.specs.Prelude.{IfOk}
use Rattle.cell_layouts.specs.declared.layout.Block.{Block}
use Rattle.cell_layouts.specs.Layout.{AreWordBlocks}
use Rattle.cell_layouts.proofs.WordBlocks.{words_made}
use Rattle.cell_layouts.proofs.laying.laid_words.Goals as goal

pub returns : goal.returns
returns c =
    let p = c.args.problem.now in
    let F : List Block → Type 0 = λ fars.
    IfOk c.word_blocks.result (λ laid. AreWordBlocks fars laid.count laid.blocks.items) in
    words_made c.word_blocks.result p.grammar (length p.word) c.args.side c.args.cells.now.count
    c.args.cells.now.blocks.items c.requires (subst F c.deref.ensures.value c.word_blocks.ensures)
