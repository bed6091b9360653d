use Rattle.std.proofs.Common.{◌<◌, length, sym, subst}
use Rattle.adp_model.specs.declared.cell.Cell.{Cell}
use Rattle.adp_model.specs.PosedProblem.{PosedProblem}
use Rattle.table_certificate.specs.BlockLines.{IsInWord}
use Rattle.table_certificate.specs.LocalCertificate.{IsRightCellLine}
use Rattle.table_certificate.proofs.SplitLines.{not_both}
use Rattle.table_certificate.proofs.blocks.right_cell.Goals as goal

pub returns-in-None : goal.returns-in-None
returns-in-None c = λ block exact told rule from to.
    let found = rw c.in-None.is at (c.cell_in_word.ensures.exact exact rule from to) in
    λ right. found (subst (λ (p : PosedProblem). IsInWord p exact) (sym c.problem-problem.ensures) (record { span = right.in_word; sizes = right.in_sizes }))

pub is_right_cell-requires-clause-inside : goal.is_right_cell-requires-clause-inside
is_right_cell-requires-clause-inside c =
    let found = rw c.in-Some.is at c.cell_in_word.ensures.inside in
    subst (λ (p : PosedProblem). IsInWord p c.in-Some.cell) c.problem-problem.ensures found.0

pub is_right_cell-requires-clause-rule : goal.is_right_cell-requires-clause-rule
is_right_cell-requires-clause-rule c =
    let found = rw c.in-Some.is at c.cell_in_word.ensures.inside in
    subst (λ n. n < length c.args.lines.now.grammar.rules) (sym found.1) c.requires.rule

pub returns-then-is_right_cell : goal.returns-then-is_right_cell
returns-then-is_right_cell c = λ block exact told rule from to.
    let found = rw c.in-Some.is at (c.cell_in_word.ensures.exact exact rule from to) in (
      found.0,
      subst (λ (x : Cell). IsRightCellLine c.args.lines.now block c.args.earlier x c.args.score) found.0 ((c.is_right_cell.ensures block told).0 c.if-is_right_cell.true),
    )

pub returns-else-is_right_cell : goal.returns-else-is_right_cell
returns-else-is_right_cell c = λ block exact told rule from to.
    let found = rw c.in-Some.is at (c.cell_in_word.ensures.exact exact rule from to) in
    λ right. not_both c.is_right_cell.result c.if-is_right_cell.false
    ((c.is_right_cell.ensures block told).1 (subst (λ (x : Cell). IsRightCellLine c.args.lines.now block c.args.earlier x c.args.score) (sym found.0) right))
