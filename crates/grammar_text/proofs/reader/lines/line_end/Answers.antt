use Rattle.std.proofs.Common.{◌∙◌}
use Rattle.grammar_text.proofs.SplitLines.{found_end}
use Rattle.grammar_text.proofs.reader.lines.line_end.Goals as goal

pub returns : goal.returns
returns c = c.unwrap_or.ensures ∙ found_end c.args.text.now c.memchr.result c.memchr.ensures
