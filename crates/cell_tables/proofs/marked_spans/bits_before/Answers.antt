use Rattle.std.proofs.Common.{arith}
use Rattle.cell_tables.proofs.SetBits.{mask_before}
use Rattle.cell_tables.proofs.marked_spans.bits_before.Goals as goal

pub returns : goal.returns
returns c = λ place. mask_before c.args.below c.args.number place c.min.result c.requires (omega (arith, c.min.ensures))
