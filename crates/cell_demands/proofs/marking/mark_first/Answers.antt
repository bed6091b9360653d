use Rattle.std.proofs.Common.{◌≡◌, ◌+◌, ◌-◌, length, get_or, refl, subst, arith, rules}
use Rattle.std.specs.List.{Contains}
use Rattle.cell_tables.specs.Bits.{IsBitOf}
use Rattle.cell_demands.proofs.BitPositions.{first_here, last_here, room_here, position_here, here_of_position}
use Rattle.cell_demands.proofs.MarkSteps.{ends_in_rows, ends_marked}
use Rattle.cell_demands.proofs.RisingPositions.{last_stands}
use Rattle.cell_demands.proofs.marking.mark_first.Goals as goal

pub overflow_add-last : goal.overflow_add-last
overflow_add-last c =
    let low = c.requires.short (get_or c.args.boundary.positions.now (length c.args.boundary.positions.now - 1) 0)
    (last_stands c.args.boundary.positions.now c.requires.some) in
    search rules

pub mark_ends_of-requires-clause-first : goal.mark_ends_of-requires-clause-first
mark_ends_of-requires-clause-first c = λ _. first_here c.args.boundary.positions.now c.args.boundary.here.now c.requires.bits c.requires.some

pub mark_ends_of-requires-clause-last : goal.mark_ends_of-requires-clause-last
mark_ends_of-requires-clause-last c = λ _.
    let positions = c.args.boundary.positions.now in
    let last = get_or positions (length positions - 1) 0 in
    let same : last ≡ last + 1 - 1 = omega arith in
    subst (IsBitOf c.args.boundary.here.now (get_or positions 0 0) (last + 1)) same
    (last_here positions c.args.boundary.here.now c.requires.bits c.requires.some)

pub mark_ends_of-requires-clause-counted : goal.mark_ends_of-requires-clause-counted
mark_ends_of-requires-clause-counted c = λ to is.
    c.requires.counted _ to (position_here c.args.boundary.positions.now c.args.boundary.here.now c.requires.bits
    c.requires.some to is) (record { rule = c.in-Rule.is; begins = refl; ends = refl })

pub mark_ends_of-requires-clause-bits : goal.mark_ends_of-requires-clause-bits
mark_ends_of-requires-clause-bits c = room_here c.args.boundary.positions.now c.args.boundary.here.now c.requires.bits c.requires.some

pub returns-in-Rule-clause-marked : goal.returns-in-Rule-clause-marked
returns-in-Rule-clause-marked c =
    let positions = c.args.boundary.positions.now in
    let here = c.args.boundary.here.now in
    ends_marked c.args.argument.now c.in-Rule.rule c.args.from c.in-Rule.is (Contains positions)
    (IsBitOf here (get_or positions 0 0) (get_or positions (length positions - 1) 0 + 1))
    (here_of_position positions here c.requires.bits c.requires.some)
    (position_here positions here c.requires.bits c.requires.some) c.args.marks.now c.mark_ends_of.new.self
    c.mark_ends_of.ensures.marked

pub returns-in-Rule-clause-in_row : goal.returns-in-Rule-clause-in_row
returns-in-Rule-clause-in_row c =
    let positions = c.args.boundary.positions.now in
    let here = c.args.boundary.here.now in
    ends_in_rows c.args.argument.now c.in-Rule.rule c.args.from c.in-Rule.is (Contains positions)
    (IsBitOf here (get_or positions 0 0) (get_or positions (length positions - 1) 0 + 1))
    (here_of_position positions here c.requires.bits c.requires.some) c.mark_ends_of.new.self
    c.mark_ends_of.ensures.in_row
