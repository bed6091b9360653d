use Rattle.std.proofs.Common.{◌∙◌}
use Rattle.nested_texts.proofs.SplitLines.{rest_of}
use Rattle.nested_texts.proofs.EndedLines.{text_ended}
use Rattle.nested_texts.proofs.output.Lines.end_line.Goals as goal

pub returns-clause-text : goal.returns-clause-text
returns-clause-text c =
    let end = rw (c.deref.ensures.value, rest_of) at c.end_of-end.ensures in
    c.in_ok-extend_from_slice.ensures.items ∙ rw end (text_ended c.args.self.now.text.items c.args.start)
