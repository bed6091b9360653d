use Rattle.nested_texts.proofs.SplitLines.{rest_of, whole_line, front_line}
use Rattle.nested_texts.proofs.lines.first_line.Goals as goal

pub returns-then-end-text-clause-lines : goal.returns-then-end-text-clause-lines
returns-then-end-text-clause-lines c =
    rw rest_of (whole_line c.args.text.now c.line_end-end.result c.if-is_empty.ensures c.line_end-end.ensures c.if-end-text.true)

pub returns-clause-lines : goal.returns-clause-lines
returns-clause-lines c =
    rw rest_of (front_line c.args.text.now c.without_return.result.now c.line_end-end.result c.line_end-end.ensures c.if-end-text.false c.without_return.ensures.is)
