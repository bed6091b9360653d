use Rattle.std.proofs.Common.{◌∙◌}
use Rattle.nested_texts.proofs.SplitLines.{found_end}
use Rattle.nested_texts.proofs.lines.line_end.Goals as goal

pub returns : goal.returns
returns c = c.unwrap_or.ensures ∙ found_end c.args.text.now c.memchr.result c.memchr.ensures
