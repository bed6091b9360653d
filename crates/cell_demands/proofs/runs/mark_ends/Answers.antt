use Rattle.std.proofs.Common.{◌+◌, refl}
use Rattle.cell_tables.specs.Bits.{IsBitOf}
use Rattle.cell_demands.proofs.MarkSteps.{ends_in_rows, ends_marked}
use Rattle.cell_demands.proofs.PlaceBits.{within_all, cut_to_set}
use Rattle.cell_demands.proofs.runs.mark_ends.Goals as goal

pub mark_ends_of-requires-clause-counted : goal.mark_ends_of-requires-clause-counted
mark_ends_of-requires-clause-counted c = λ to is.
    c.requires.counted _ to
    (within_all c.args.bits.now c.args.first c.args.past c.first_set-least.result c.in-Some.last
    c.first_set-least.ensures.from_first c.first_set-least.ensures.none_before c.in-Some.ensures to is)
    (record { rule = c.in-Rule.is; begins = refl; ends = refl })

pub returns-in-Rule-clause-marked : goal.returns-in-Rule-clause-marked
returns-in-Rule-clause-marked c =
    let bits = c.args.bits.now in
    let first = c.args.first in
    let past = c.args.past in
    let least = c.first_set-least.ensures in
    let begin = c.first_set-least.result in
    let last = c.in-Some.last in
    ends_marked c.args.argument.now c.in-Rule.rule c.args.from c.in-Rule.is (IsBitOf bits first past)
    (IsBitOf bits begin (last + 1))
    (cut_to_set bits first past begin last least.from_first least.none_before c.in-Some.ensures)
    (within_all bits first past begin last least.from_first least.none_before c.in-Some.ensures)
    c.args.marks.now c.mark_ends_of.new.self c.mark_ends_of.ensures.marked

pub returns-in-Rule-clause-in_row : goal.returns-in-Rule-clause-in_row
returns-in-Rule-clause-in_row c =
    let bits = c.args.bits.now in
    let begin = c.first_set-least.result in
    let last = c.in-Some.last in
    ends_in_rows c.args.argument.now c.in-Rule.rule c.args.from c.in-Rule.is (IsBitOf bits c.args.first c.args.past)
    (IsBitOf bits begin (last + 1))
    (cut_to_set bits c.args.first c.args.past begin last c.first_set-least.ensures.from_first
    c.first_set-least.ensures.none_before c.in-Some.ensures)
    c.mark_ends_of.new.self c.mark_ends_of.ensures.in_row
