use Rattle.std.proofs.Common.{◌≡◌, ◌+◌, subst, arith}
use Rattle.cell_tables.specs.Bits.{IsBitOf}
use Rattle.argument_search.proofs.NotedPositions.{room_up_to, bit_there, cell_there}
use Rattle.argument_search.proofs.skipping.first_noted.Goals as goal

pub noted_ends-requires-clause-bits : goal.noted_ends-requires-clause-bits
noted_ends-requires-clause-bits g c =
    let pair = c.args.pair in
    omega (arith, room_up_to pair.positions.now 0 pair.here.now c.requires.here c.args.past c.requires.up_to)

pub returns-in-Rule-clause-noted : goal.returns-in-Rule-clause-noted
returns-in-Rule-clause-noted g c = λ position contains low high child here.
    let pair = c.args.pair in
    let same : position + 0 ≡ position = omega arith in
    let bit = subst (IsBitOf pair.here.now c.args.begin c.noted_ends.result) same
    (bit_there pair.positions.now 0 pair.here.now c.requires.here position contains c.args.begin c.noted_ends.result
    (omega arith) (omega arith)) in
    cell_there (g.N.NotedCells.is_noted c.args.noted.now) pair.first.now c.in-Rule.rule pair.from position
    c.in-Rule.is (c.noted_ends.ensures.noted position bit) child here
