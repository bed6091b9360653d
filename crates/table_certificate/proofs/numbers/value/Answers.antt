use Rattle.std.proofs.Common.{◌∙◌}
use Rattle.table_certificate.proofs.Digits.{digit_here, one_digit_more}
use Rattle.table_certificate.proofs.numbers.value.Goals as goal

pub with_digit-value-requires-clause-low : goal.with_digit-value-requires-clause-low
with_digit-value-requires-clause-low c = (digit_here c.args.digits.now c.loop-byte.byte-index c.requires c.loop-byte-test.true).0

pub with_digit-value-requires-clause-high : goal.with_digit-value-requires-clause-high
with_digit-value-requires-clause-high c = (digit_here c.args.digits.now c.loop-byte.byte-index c.requires c.loop-byte-test.true).1

pub loop-byte-preserved : goal.loop-byte-preserved
loop-byte-preserved c =
    let digit = digit_here c.args.digits.now c.loop-byte.byte-index c.requires c.loop-byte-test.true in
    c.with_digit-value.ensures ∙ one_digit_more c.args.digits.now c.loop-byte.byte-index c.loop-byte.value c.loop-byte-test.true digit.0 digit.1 c.loop-byte.invariant
