use Rattle.std.proofs.Common.{arith}
use Rattle.cell_tables.proofs.SetBits.{mask_from}
use Rattle.cell_tables.proofs.marked_spans.bits_from.Goals as goal

pub returns : goal.returns
returns c = λ place. mask_from c.args.least c.args.number place c.saturating_sub.result c.requires.from (omega (arith, c.saturating_sub.ensures))
