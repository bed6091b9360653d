use Rattle.std.proofs.Common.{◌≡◌, true, refl, sym, subst, ◌∙◌, arith}
use Rattle.cell_tables.specs.Marks.{CellMarks, AreMarkedToo}
use Rattle.cell_tables.specs.MarksFields.{cell_marks}
use Rattle.cell_tables.proofs.FlaggedMarks.{starts_flagged}
use Rattle.cell_tables.proofs.CellMarks.{IsCountedIn, cell_by_parts, marked_like, rows_kept, rows_marked, with_rows}
use Rattle.cell_tables.proofs.marks.Marks.mark.Goals as goal

pub raise-requires : goal.raise-requires
raise-requires c =
    let C : CellMarks → Type 0 = λ marks. IsCountedIn marks c.args.cell in
    let counted = subst C (sym c.self.view_is) c.requires in
    omega (arith, counted.in_order, counted.in_word, c.self.invariant.each_start)

pub invariant_of-self : goal.invariant_of-self
invariant_of-self c =
    let cell = c.args.cell in
    let old = cell_marks c.self.inside in
    let C : CellMarks → Type 0 = λ marks. IsCountedIn marks cell in
    let counted = subst C (sym c.self.view_is) c.requires in
    record {
      marks = rows_kept old c.set_bit.new.self cell.rule cell.from (λ other. other ≡ cell.to) c.set_bit.ensures c.self.invariant.marks (λ far e. subst (λ to. IsCountedIn old (record { rule = cell.rule; from = cell.from; to = to })) (sym e) counted);
      each_rule = c.self.invariant.each_rule;
      each_start = c.raise.ensures.as_many ∙ c.self.invariant.each_start;
      rules = c.self.invariant.rules;
      starts = starts_flagged old c.set_bit.new.self cell.rule cell.from (λ other. other ≡ cell.to) true c.self.inside.begun.items c.raise.new.flags.items c.set_bit.ensures c.raise.ensures (λ _. (cell.to, refl), λ _. refl) c.self.invariant.starts;
    }

pub returns-clause-marked : goal.returns-clause-marked
returns-clause-marked c =
    let cell = c.args.cell in
    let old = cell_marks c.self.inside in
    let new = with_rows old c.set_bit.new.self in
    let M : CellMarks → Type 0 = λ marks. AreMarkedToo marks new (λ other. other ≡ cell) in
    let marked = rows_marked old c.set_bit.new.self cell.rule cell.from (λ other. other ≡ cell.to) c.set_bit.ensures in
    subst M c.self.view_is (marked_like old new (λ other. (other.rule ≡ cell.rule) × (other.from ≡ cell.from) × (other.to ≡ cell.to)) (λ other. other ≡ cell) (λ other. (cell_by_parts cell other).0) (λ other. (cell_by_parts cell other).1) marked)
