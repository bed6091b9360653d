use Rattle.std.proofs.Common.{IsTrue, subst, arith}
use Rattle.adp_model.specs.PosedProblem.{PosedProblem}
use Rattle.adp_model.specs.WellFormed.{is_well_formed}
use Rattle.table_certificate.proofs.ListedCells.{rule_listed}
use Rattle.table_certificate.proofs.demanded.push_rule.Goals as goal

pub returns : goal.returns
returns g c =
    let p = c.args.layout.now in
    let formed = subst (λ (q : PosedProblem). IsTrue (is_well_formed q.grammar)) c.problem.ensures c.admissible.ensures.checked.well_formed in
    rule_listed p (c.demanded_cells_are_counted.ensures p formed) c.args.rule c.loop-from.from
    (omega (arith, c.loop-from-test.false, c.positions-from-end.ensures.same)) c.loop-from.cells.items c.loop-from.invariant
