use Rattle.table_certificate.proofs.BlockSteps.{one_more_read}
use Rattle.table_certificate.proofs.blocks.read_block.Goals as goal

pub lines-preserved : goal.lines-preserved
lines-preserved c =
    let line = c.in-Some.ensures in
    let read = c.lines.invariant in
    one_more_read c.args.grammar.now c.args.text.now c.lines.rest.now c.in-Some.behind.now c.lines.claims c.note_line.new.claims c.lines.count line.next.exact read
    line.next.first line.next.fewer line.other (c.in_ok-note_line.ensures read.before line.next.exact line.next.is read.told)
