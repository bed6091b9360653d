use Rattle.std.proofs.Common.{◌^◌, ◌<◌, rules, arith}
use Rattle.std.proofs.lemmas.Nat.{shr_le}
use Rattle.suffix_cells.proofs.RuleBits.{none_past, none_ahead, first_ahead}
use Rattle.suffix_cells.proofs.visits.first_bit.Goals as goal

pub returns-then-least-ge-MOST_RULES : goal.returns-then-least-ge-MOST_RULES
returns-then-least-ge-MOST_RULES c =
    let small : c.args.bits < 2 ^ 128 = search rules in
    none_past c.args.bits small c.args.least (search rules)

pub returns-then-ahead-eq0 : goal.returns-then-ahead-eq0
returns-then-ahead-eq0 c =
    let small : c.args.bits < 2 ^ 128 = search rules in
    none_ahead c.args.bits small c.args.least c.if-ahead-eq0.true

pub returns : goal.returns
returns c =
    let small : c.args.bits < 2 ^ 128 = search rules in
    first_ahead c.args.bits small c.args.least (omega (arith, small, shr_le c.args.bits c.args.least)) c.if-ahead-eq0.false
