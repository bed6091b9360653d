use Rattle.std.proofs.Common.{◌≤◌, length, subst, arith}
use Rattle.std.proofs.lemmas.List.{length-map}
use Rattle.adp_model.specs.declared.cell.Cell.{Cell}
use Rattle.adp_model.specs.PosedProblem.{PosedProblem}
use Rattle.adp_model.specs.ProblemFields.{IsAdmissible}
use Rattle.adp_model.specs.Demand.{IsDemandedChild}
use Rattle.row_scores.specs.RowRules.{numbers_of}
use Rattle.row_scores.proofs.RowSweeps.{all_rows, children_before, first_row, row_more}
use Rattle.row_scores.proofs.RuleLists.{number_of, rule_of}
use Rattle.row_scores.proofs.sweep.fill_start.Goals as goal

pub loop-rule-init : goal.loop-rule-init
loop-rule-init g c =
    let p = c.args.lines.now in
    let admissible : IsAdmissible p = subst (λ (q : PosedProblem). IsAdmissible q) c.problem.ensures c.admissible.ensures in
    record {
      clear = c.requires.room;
      filled = first_row g.N.RowNumber.width g.N.RowNumber.value p (c.demanded_cells_are_counted.ensures p admissible.checked.well_formed)
          (numbers_of c.args.rules.now) c.requires.rules.in_order c.args.from c.args.table.now c.requires.filled;
    }

pub fill_marked-requires-clause-rule : goal.fill_marked-requires-clause-rule
fill_marked-requires-clause-rule g c =
    c.requires.rules.are c.loop-rule.rule-index c.rule-item.result
    (rule_of c.args.rules.now c.loop-rule.rule-index c.rule-item.result c.loop-rule-test.true c.rule-item.is)

pub fill_marked-requires-clause-children : goal.fill_marked-requires-clause-children
fill_marked-requires-clause-children g c =
    let p = c.args.lines.now in
    let admissible : IsAdmissible p = subst (λ (q : PosedProblem). IsAdmissible q) c.problem.ensures c.admissible.ensures in
    let below : (cell child : Cell) → IsDemandedChild p cell child → cell.from ≤ child.from = λ cell child is.
    (c.demanded_children_are_below.ensures p admissible.least admissible.greatest admissible.ranks admissible.checked cell child is).begins in
    let there = rule_of c.args.rules.now c.loop-rule.rule-index c.rule-item.result c.loop-rule-test.true c.rule-item.is in (
      c.loop-rule.invariant.filled.numbers,
      children_before g.N.RowNumber.width g.N.RowNumber.value p (c.demanded_cells_are_counted.ensures p admissible.checked.well_formed)
          (numbers_of c.args.rules.now) c.requires.rules.in_order c.args.from below c.loop-rule.rule-index c.rule-item.result.rule
          (number_of c.args.rules.now c.loop-rule.rule-index c.rule-item.result there) c.loop-rule.table c.loop-rule.invariant.filled,
    )

pub loop-rule-preserved : goal.loop-rule-preserved
loop-rule-preserved g c =
    let p = c.args.lines.now in
    let admissible : IsAdmissible p = subst (λ (q : PosedProblem). IsAdmissible q) c.problem.ensures c.admissible.ensures in
    let there = rule_of c.args.rules.now c.loop-rule.rule-index c.rule-item.result c.loop-rule-test.true c.rule-item.is in
    record {
      clear = c.fill_marked.ensures.room;
      filled = row_more g.N.RowNumber.width g.N.RowNumber.value p (c.demanded_cells_are_counted.ensures p admissible.checked.well_formed)
          (numbers_of c.args.rules.now) c.requires.rules.in_order c.args.from c.loop-rule.rule-index c.rule-item.result.rule
          (number_of c.args.rules.now c.loop-rule.rule-index c.rule-item.result there) c.loop-rule.table c.fill_marked.new.table c.loop-rule.invariant.filled
          c.fill_marked.ensures.kept c.fill_marked.ensures.filled;
    }

pub returns-clause-filled : goal.returns-clause-filled
returns-clause-filled g c =
    let p = c.args.lines.now in
    let admissible : IsAdmissible p = subst (λ (q : PosedProblem). IsAdmissible q) c.problem.ensures c.admissible.ensures in
    let whole : length (numbers_of c.args.rules.now) ≤ c.loop-rule.rule-index =
    omega (arith, c.loop-rule-test.false, length-map c.args.rules.now (λ r. r.rule)) in
    all_rows g.N.RowNumber.width g.N.RowNumber.value p (c.demanded_cells_are_counted.ensures p admissible.checked.well_formed)
    (numbers_of c.args.rules.now) c.requires.rules.in_order c.args.from c.loop-rule.rule-index whole c.loop-rule.table c.loop-rule.invariant.filled
