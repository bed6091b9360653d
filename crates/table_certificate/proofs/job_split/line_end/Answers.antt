use Rattle.std.proofs.Common.{◌∙◌}
use Rattle.table_certificate.proofs.SplitLines.{found_end}
use Rattle.table_certificate.proofs.job_split.line_end.Goals as goal

pub returns : goal.returns
returns c = c.unwrap_or.ensures ∙ found_end c.args.text.now c.memchr.result c.memchr.ensures
