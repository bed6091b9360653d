use Rattle.std.proofs.Common.{sym, subst}
use Rattle.table_certificate.proofs.KeptLines.{IsNoCell, tell_nothing}
use Rattle.table_certificate.proofs.blocks.note_line.Goals as goal

pub returns-in-Word : goal.returns-in-Word
returns-in-Word c = tell_nothing c.args.claims.now c.args.form (subst IsNoCell (sym c.in-Word.is) tt)

pub returns-in-Cert : goal.returns-in-Cert
returns-in-Cert c = tell_nothing c.args.claims.now c.args.form (subst IsNoCell (sym c.in-Cert.is) tt)

pub returns-in-Formless : goal.returns-in-Formless
returns-in-Formless c = tell_nothing c.args.claims.now c.args.form (subst IsNoCell (sym c.in-Formless.is) tt)
