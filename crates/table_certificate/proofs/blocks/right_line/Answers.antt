use Rattle.std.proofs.Common.{sym, subst}
use Rattle.table_certificate.proofs.KeptLines.{IsNoCell, cell_kept, line_result, no_cell_wrong}
use Rattle.table_certificate.proofs.blocks.right_line.Goals as goal

pub returns-in-Word : goal.returns-in-Word
returns-in-Word c = λ block exact told e other.
    no_cell_wrong c.args.lines.now block c.args.earlier exact c.args.form e (subst IsNoCell (sym c.in-Word.is) tt) other

pub returns-in-Cert : goal.returns-in-Cert
returns-in-Cert c = λ block exact told e other.
    no_cell_wrong c.args.lines.now block c.args.earlier exact c.args.form e (subst IsNoCell (sym c.in-Cert.is) tt) other

pub returns-in-Formless : goal.returns-in-Formless
returns-in-Formless c = λ block exact told e other.
    no_cell_wrong c.args.lines.now block c.args.earlier exact c.args.form e (subst IsNoCell (sym c.in-Formless.is) tt) other

pub returns-in-Cell : goal.returns-in-Cell
returns-in-Cell c = λ block exact told e other.
    let kept = cell_kept exact c.args.form e c.in-Cell.rule c.in-Cell.from c.in-Cell.to c.in-Cell.score c.in-Cell.is in
    line_result c.args.lines.now block c.args.earlier exact c.in-Cell.rule c.in-Cell.from c.in-Cell.to c.in-Cell.score kept c.right_cell.result
    (c.right_cell.ensures block kept.cell told kept.rule_is kept.from_is kept.to_is)
