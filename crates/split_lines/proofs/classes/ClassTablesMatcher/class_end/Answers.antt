use Rattle.std.proofs.Common.{◌<◌, length, arith}
use Rattle.std.proofs.lemmas.List.{get_or_read}
use Rattle.split_lines.proofs.ClassFacts.{class_end_at}
use Rattle.split_lines.proofs.classes.ClassTablesMatcher.class_end.Goals as goal

pub returns : goal.returns
returns c =
    let ahead = c.table.result.now.ahead.items in
    let within : c.args.from < length ahead = omega (arith, c.table.ensures.ahead.each, c.requires.span.in_order, c.requires.span.in_word) in
    let read = get_or_read ahead c.args.from c.index.result.now within c.index.ensures 0 in
    class_end_at c.args.self.now c.args.class c.args.from c.args.last c.min.result ahead c.requires.span c.table.ensures.ahead (rw read at c.min.ensures)
