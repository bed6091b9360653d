use Rattle.std.proofs.Common.{IsTrue, rules, sym, subst, arith}
use Rattle.adp_model.specs.PosedProblem.{PosedProblem}
use Rattle.adp_model.specs.Demand.{IsDemanded}
use Rattle.adp_model.specs.WellFormed.{is_well_formed}
use Rattle.table_certificate.proofs.ListedCells.{first_listed, last_listed, none_more_listed, one_more_listed}
use Rattle.table_certificate.proofs.SplitLines.{not_both}
use Rattle.table_certificate.proofs.demanded.push_ends.Goals as goal
use Rattle.table_certificate.proofs.demanded.push_ends.Goals.{then-is_some+in_ok-push, else-is_some}

pub loop-to-init : goal.loop-to-init
loop-to-init g c =
    let p = c.args.layout.now in
    let formed = subst (λ (q : PosedProblem). IsTrue (is_well_formed q.grammar)) c.problem.ensures c.admissible.ensures.checked.well_formed in
    first_listed p (c.demanded_cells_are_counted.ensures p formed) c.args.rule c.args.from c.ends-ends.result.start c.ends-ends.result.end c.ends-ends.ensures.ends
    c.args.cells.now.items c.requires.listed

pub loop-to-preserved : goal.loop-to-preserved
loop-to-preserved g c =
    let p = c.args.layout.now in
    elim c.if-is_some.branch [
      | then-is_some+in_ok-push w ↦
          rw (w.cells-is, w.in_ok-push.ensures.items)
          (one_more_listed p c.args.rule c.args.from c.loop-to.to c.loop-to.cells.items c.loop-to.invariant
          (subst (λ (q : PosedProblem). IsDemanded q (record { rule = c.args.rule; from = c.args.from; to = c.loop-to.to })) c.requires.scores
          (c.demanded_score.ensures.demanded.0 (search rules))))
      | else-is_some w ↦
          rw w.cells-is
          (none_more_listed p c.args.rule c.args.from c.loop-to.to c.loop-to.cells.items c.loop-to.invariant
          (λ needed. not_both c.is_some.result w.if-is_some.false
          (let here = c.demanded_score.ensures.demanded.1 (subst (λ (q : PosedProblem). IsDemanded q (record { rule = c.args.rule; from = c.args.from; to = c.loop-to.to })) (sym c.requires.scores) needed) in search rules)))
    ]

pub returns : goal.returns
returns g c =
    let p = c.args.layout.now in
    let formed = subst (λ (q : PosedProblem). IsTrue (is_well_formed q.grammar)) c.problem.ensures c.admissible.ensures.checked.well_formed in
    last_listed p (c.demanded_cells_are_counted.ensures p formed) c.args.rule c.args.from c.ends-ends.result.start c.ends-ends.result.end c.loop-to.to
    (omega (arith, c.loop-to-test.false)) c.ends-ends.ensures.ends c.loop-to.cells.items c.loop-to.invariant
