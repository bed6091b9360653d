use Rattle.std.proofs.Common.{◌≡◌, false, true, subst, arith}
use Rattle.adp_model.specs.ProblemFields.{IsAdmissible}
use Rattle.table_certificate.proofs.JudgedCells.{AreFitting}
use Rattle.table_certificate.proofs.SettledLines.{children_said}
use Rattle.table_certificate.proofs.SplitLines.{not_both}
use Rattle.table_certificate.proofs.WordCells.{right_or_not}
use Rattle.table_certificate.proofs.blocks.is_right_cell.Goals as goal

pub returns-then-not-is_in_order : goal.returns-then-not-is_in_order
returns-then-not-is_in_order c = λ block told.
    (λ is. let h : false ≡ true = is in cc, λ right. absurd (not_both c.is_in_order.result c.if-not-is_in_order.true (c.is_in_order.ensures.1 right.in_order)))

pub returns-in-Some : goal.returns-in-Some
returns-in-Some c = λ block told.
    let p = c.args.lines.now in
    let admissible : IsAdmissible p = subst IsAdmissible c.problem.ensures c.admissible.ensures in
    let settled = rw c.in-Some.is at c.settled_score.ensures in
    let said = children_said p c.args.claims.now block c.args.said_best.now told (omega (arith, admissible.limits.letters))
    (c.demanded_cells_are_counted.ensures p admissible.checked.well_formed) c.requires.noted c.args.cell c.in-Some.best settled in
    let line = c.settled_lines_say_best_scores.ensures p admissible block c.args.cell c.in-Some.best c.args.score c.args.earlier settled.demanded settled.best said
    (c.is_in_order.ensures.0 c.if-not-is_in_order.false) in
    (λ is. line.0 (c.is_same.ensures.0 is), λ right. c.is_same.ensures.1 (line.1 right))

pub returns-in-None : goal.returns-in-None
returns-in-None c = λ block told.
    let p = c.args.lines.now in
    let admissible : IsAdmissible p = subst IsAdmissible c.problem.ensures c.admissible.ensures in
    let formed = admissible.checked.well_formed in
    let fitting : AreFitting p c.args.cell = record {
      some = λ alternative low. c.alternatives_fit.ensures.arguments p.grammar formed c.args.cell.rule alternative low;
      few = λ alternative. c.arguments_are_few_and_known.ensures.few p.grammar formed c.args.cell.rule alternative;
    } in
    right_or_not p c.args.claims.now block c.args.earlier c.args.cell c.args.score fitting told (omega (arith, admissible.limits.letters)) c.requires.inside
    (c.is_in_order.ensures.0 c.if-not-is_in_order.false) c.is_best.result c.is_best.ensures
