use Rattle.std.proofs.Common.{◌≤◌, arith}
use Rattle.memo_table.proofs.Fewness.{others_are_fewer}
use Rattle.memo_table.proofs.laws.other_cells_are_fewer.Goals as goal

pub returns-clause-demanded : goal.returns-clause-demanded
returns-clause-demanded c plan planned v cell turn m keys demanded coded (cells, all, is) others =
    let bounded : m ≤ plan.cells =
    c.demanded_cells_are_within_the_cell_bound.ensures plan.problem m plan.cells planned.well_formed (cells, all, is)
    planned.cells in
    let less = others_are_fewer plan v cell turn keys demanded coded cells all others
    c.each_position_is_tried_once.ensures
    (omega arith) planned.bits.enough in
    omega arith

pub returns-clause-limit : goal.returns-clause-limit
returns-clause-limit c plan planned admissible v cell turn keys demanded coded others =
    let (m, (cells, all, is), few) = c.demanded_cells_are_listed.ensures.count plan.problem admissible in
    let bounded : m ≤ plan.cells =
    c.demanded_cells_are_within_the_cell_bound.ensures plan.problem m plan.cells planned.well_formed (cells, all, is)
    planned.cells in
    let less = others_are_fewer plan v cell turn keys demanded coded cells all others
    c.each_position_is_tried_once.ensures
    (omega arith) planned.bits.enough in
    omega arith
