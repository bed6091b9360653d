use Rattle.std.proofs.Common.{◌≡◌, IsTrue, length, subst, arith}
use Rattle.adp_model.specs.PosedProblem.{PosedProblem}
use Rattle.adp_model.specs.WellFormed.{is_well_formed}
use Rattle.table_certificate.proofs.ListedCells.{all_listed}
use Rattle.table_certificate.proofs.demanded.demanded_cells.Goals as goal

pub push_rule-requires-clause-rule : goal.push_rule-requires-clause-rule
push_rule-requires-clause-rule g c =
    let count = subst (λ (q : PosedProblem). c.rule_count-rule-end.result ≡ length q.grammar.rules) c.problem-problem.ensures c.rule_count-rule-end.ensures.count in
    let few = c.rule_count-rule-end.ensures.few in
    omega (arith, count, few, c.loop-rule-test.true)

pub returns : goal.returns
returns g c =
    let p = c.args.layout.now in
    let formed = subst (λ (q : PosedProblem). IsTrue (is_well_formed q.grammar)) c.problem-problem.ensures c.admissible.ensures.checked.well_formed in
    let count = subst (λ (q : PosedProblem). c.rule_count-rule-end.result ≡ length q.grammar.rules) c.problem-problem.ensures c.rule_count-rule-end.ensures.count in
    all_listed p (c.demanded_cells_are_counted.ensures p formed) c.loop-rule.rule
    (omega (arith, count, c.loop-rule-test.false)) c.loop-rule.cells.items c.loop-rule.invariant
