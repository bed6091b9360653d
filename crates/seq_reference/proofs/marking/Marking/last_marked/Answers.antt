use Rattle.std.proofs.Common.{sym, subst}
use Rattle.cell_tables.specs.Marks.{CellMarks, IsSpanMarked}
use Rattle.seq_reference.proofs.marking.Marking.last_marked.Goals as goal

pub returns-clause-none : goal.returns-clause-none
returns-clause-none c = λ none to before spanned.
    let M : CellMarks → Type 0 = λ marks. IsSpanMarked marks c.args.rules.now c.args.from to in
    c.last_marked.ensures.none none to before (subst M (sym c.self.view_is) spanned)
