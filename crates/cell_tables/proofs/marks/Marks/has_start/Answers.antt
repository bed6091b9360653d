use Rattle.std.proofs.Common.{◌↔◌, Bool, false, List, get_or, sym, ap, subst, ◌∙◌}
use Rattle.cell_tables.specs.Flags.{IsFlagged}
use Rattle.cell_tables.specs.Marks.{CellMarks, HasStart}
use Rattle.cell_tables.proofs.FlaggedMarks.{flag_told}
use Rattle.cell_tables.proofs.marks.Marks.has_start.Goals as goal

pub returns : goal.returns
returns c =
    let flags = c.self.inside.begun.items in
    let M : CellMarks → Type 0 = λ marks. IsFlagged flags c.args.from ↔ HasStart marks c.args.from in
    let told = subst M c.self.view_is (c.self.invariant.starts c.args.from) in
    let is = c.flag.ensures ∙ ap (λ (flags : List Bool). get_or flags c.args.from false) c.deref.ensures.value in
    let read = flag_told flags c.args.from in
    (λ set. told.0 (read.0 (sym is ∙ set)), λ has. is ∙ read.1 (told.1 has))
