use Rattle.std.proofs.Common.{length}
use Rattle.cell_tables.proofs.WordBlocks.{words_there, words_empty}
use Rattle.cell_tables.proofs.bits.word_grid.Goals as goal

pub returns-clause-there : goal.returns-clause-there
returns-clause-there c =
    let p = c.args.layout.now in
    words_there c.new.result _ _ _ p.grammar (length p.word) c.args.side c.words.ensures c.positions.ensures.same
    c.new.ensures.positions c.new.ensures.blocks c.new.ensures.count

pub returns-clause-none : goal.returns-clause-none
returns-clause-none c =
    words_empty c.new.result _ _ c.words.ensures.laid c.new.ensures.blocks c.new.ensures.count c.new.ensures.values
