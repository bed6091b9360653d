use Rattle.std.proofs.Common.{◌^◌, ◌<◌, rules, arith}
use Rattle.suffix_cells.proofs.RuleBits.{none_behind, last_behind}
use Rattle.suffix_cells.proofs.visits.last_bit.Goals as goal

pub returns-then-behind-eq0 : goal.returns-then-behind-eq0
returns-then-behind-eq0 c =
    let small : c.args.bits < 2 ^ 128 = search rules in
    let count = c.min.result in
    none_behind c.args.bits small c.args.below count (omega (arith, c.min.ensures, c.if-below-eq0.false)) (omega (arith, c.min.ensures))
    (omega (arith, c.min.ensures)) (λ place before few. omega (arith, c.min.ensures)) c.if-behind-eq0.true

pub returns : goal.returns
returns c =
    let small : c.args.bits < 2 ^ 128 = search rules in
    let count = c.min.result in
    last_behind c.args.bits small c.args.below count (omega (arith, c.min.ensures, c.if-below-eq0.false)) (omega (arith, c.min.ensures))
    (omega (arith, c.min.ensures)) (λ place before few. omega (arith, c.min.ensures)) (search rules) c.if-behind-eq0.false
