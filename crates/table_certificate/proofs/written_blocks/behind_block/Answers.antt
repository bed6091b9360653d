use Rattle.table_certificate.proofs.WrittenBlocks.{parted_text}
use Rattle.table_certificate.proofs.written_blocks.behind_block.Goals as goal

pub returns-in-None-clause-text : goal.returns-in-None-clause-text
returns-in-None-clause-text c =
    parted_text c.args.block.now c.args.text.now c.in_ok-behind.behind.now c.in_ok-behind.ensures.cases.0 c.in_ok-behind.ensures.cases.1
