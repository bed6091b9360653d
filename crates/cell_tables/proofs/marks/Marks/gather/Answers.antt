use Rattle.std.proofs.Common.{arith}
use Rattle.cell_tables.proofs.GatheredMarks.{one_more_gathered}
use Rattle.cell_tables.proofs.marks.Marks.gather.Goals as goal

pub loop-rule-preserved : goal.loop-rule-preserved
loop-rule-preserved c = one_more_gathered c.args.self.now c.loop-rule.self c.gather_rule.new.self c.args.from c.loop-rule.rule c.loop-rule.invariant c.gather_rule.ensures.same c.gather_rule.ensures.gathered

pub returns-clause-gathered : goal.returns-clause-gathered
returns-clause-gathered c = λ cell (at, marked).
    let counted = c.cells.ensures.counted cell marked in
    c.loop-rule.invariant.in_rows cell (omega (arith, counted.rule, c.rules-rule-end.ensures.same, c.loop-rule-test.false), at, marked)
