use Rattle.std.proofs.Common.{◌+◌, arith}
use Rattle.argument_search.proofs.NotedPositions.{room_up_to, bit_there, cell_there}
use Rattle.argument_search.proofs.skipping.second_noted.Goals as goal

pub noted_starts-requires-clause-bits : goal.noted_starts-requires-clause-bits
noted_starts-requires-clause-bits g c =
    let pair = c.args.pair in
    room_up_to pair.positions.now pair.letters pair.behind.now c.requires.behind c.args.past c.requires.up_to

pub returns-in-Rule-clause-noted : goal.returns-in-Rule-clause-noted
returns-in-Rule-clause-noted g c = λ position contains low high child here.
    let pair = c.args.pair in
    let bit = bit_there pair.positions.now pair.letters pair.behind.now c.requires.behind position contains
    (c.args.begin + pair.letters) c.noted_starts.result (omega arith) (omega arith) in
    cell_there (g.N.NotedCells.is_noted c.args.noted.now) pair.second.now c.in-Rule.rule
    (position + pair.letters) pair.last c.in-Rule.is (c.noted_starts.ensures.noted (position + pair.letters) bit) child here
