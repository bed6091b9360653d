use Rattle.std.proofs.Common.{length, ap, arith}
use Rattle.table_certificate.proofs.blocks.lies_in_word.Goals as goal

pub returns : goal.returns
returns c = (
  λ is. (omega arith, omega (arith, ap length c.letters.ensures.word), c.is_within_sizes.ensures.0 is),
  λ lies. c.is_within_sizes.ensures.1 lies.2,
)
