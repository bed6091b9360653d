use Rattle.std.proofs.Common.{◌↔◌, Bool, false, List, get_or, sym, ap, subst, ◌∙◌}
use Rattle.cell_tables.specs.Flags.{IsFlagged}
use Rattle.cell_tables.specs.Marks.{CellMarks, HasInColumns}
use Rattle.cell_tables.proofs.FlaggedMarks.{flag_told}
use Rattle.cell_tables.proofs.marks.Marks.is_in_columns.Goals as goal

pub returns : goal.returns
returns c =
    let flags = c.self.inside.in_columns.items in
    let M : CellMarks → Type 0 = λ marks. IsFlagged flags c.args.rule ↔ HasInColumns marks c.args.rule in
    let told = subst M c.self.view_is (c.self.invariant.rules c.args.rule) in
    let is = c.flag.ensures ∙ ap (λ (flags : List Bool). get_or flags c.args.rule false) c.deref.ensures.value in
    let read = flag_told flags c.args.rule in
    (λ set. told.0 (read.0 (sym is ∙ set)), λ has. is ∙ read.1 (told.1 has))
