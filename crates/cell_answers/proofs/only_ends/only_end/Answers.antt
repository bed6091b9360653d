use Rattle.std.proofs.Common.{◌≡◌, ◌+◌, arith}
use Rattle.split_lines.specs.Matching.{fixed_length}
use Rattle.cell_answers.proofs.Dividing.{cover_forward}
use Rattle.cell_answers.proofs.Tokens.{fixed_span}
use Rattle.cell_answers.proofs.only_ends.only_end.Goals as goal

-- a token of fixed length ends at `to` or before
pub overflow_cast-result : goal.overflow_cast-result
overflow_cast-result c =
    let (p, end, fits, cover) = c.requires.laid in
    let ends : end ≡ c.args.from + fixed_length c.args.argument.now = fixed_span p c.args.argument.now c.args.from end
    (c.is_fixed.ensures.0 c.if-is_fixed.true) fits in
    let within = cover_forward p c.args.others.now end c.args.to cover in
    omega (arith, ends, within, c.fixed_length.ensures, c.ranges.to)

pub overflow_add-result : goal.overflow_add-result
overflow_add-result c =
    let (p, end, fits, cover) = c.requires.laid in
    let ends : end ≡ c.args.from + fixed_length c.args.argument.now = fixed_span p c.args.argument.now c.args.from end
    (c.is_fixed.ensures.0 c.if-is_fixed.true) fits in
    let within = cover_forward p c.args.others.now end c.args.to cover in
    omega (arith, ends, within, c.fixed_length.ensures, c.ranges.to)
