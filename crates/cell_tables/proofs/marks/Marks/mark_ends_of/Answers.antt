use Rattle.std.proofs.Common.{◌≡◌, ℕ, ◌-◌, true, refl, sym, subst, ◌∙◌, arith}
use Rattle.adp_model.specs.declared.cell.Cell.{Cell}
use Rattle.cell_tables.specs.Bits.{IsBitOf}
use Rattle.cell_tables.specs.Marks.{CellMarks, AreMarkedToo}
use Rattle.cell_tables.specs.MarksFields.{cell_marks}
use Rattle.cell_tables.proofs.FlaggedMarks.{none_marked, starts_flagged}
use Rattle.cell_tables.proofs.CellMarks.{IsCountedIn, in_rows, rows_kept, rows_marked, with_rows}
use Rattle.cell_tables.proofs.marks.Marks.mark_ends_of.Goals as goal

pub returns-then-first-past-clause-marked : goal.returns-then-first-past-clause-marked
returns-then-first-past-clause-marked c = none_marked c.args.self.now _ (λ cell is. omega (arith, is.2.from_first, is.2.before, c.if-first-past.true))

pub returns-then-first-past-clause-in_row : goal.returns-then-first-past-clause-in_row
returns-then-first-past-clause-in_row c = λ cell is. absurd (omega (arith, is.2.from_first, is.2.before, c.if-first-past.true))

pub raise-requires : goal.raise-requires
raise-requires c =
    let cell : Cell = record { rule = c.args.rule; from = c.args.from; to = c.args.first } in
    let C : CellMarks → Type 0 = λ marks. IsCountedIn marks cell in
    let counted = subst C (sym c.self.view_is) (c.requires.counted c.args.first (c.requires.first (omega arith))) in
    omega (arith, counted.in_order, counted.in_word, c.self.invariant.each_start)

pub set_bits_of-requires-clause-first : goal.set_bits_of-requires-clause-first
set_bits_of-requires-clause-first c = λ some.
    let C : CellMarks → Type 0 = λ marks. IsCountedIn marks (record { rule = c.args.rule; from = c.args.from; to = c.args.first }) in
    c.self.invariant.marks.row_there (record { rule = c.args.rule; from = c.args.from; to = c.args.first }) (subst C (sym c.self.view_is) (c.requires.counted c.args.first (c.requires.first some)))

pub set_bits_of-requires-clause-last : goal.set_bits_of-requires-clause-last
set_bits_of-requires-clause-last c = λ some.
    let C : CellMarks → Type 0 = λ marks. IsCountedIn marks (record { rule = c.args.rule; from = c.args.from; to = c.args.past - 1 }) in
    c.self.invariant.marks.row_there (record { rule = c.args.rule; from = c.args.from; to = c.args.past - 1 }) (subst C (sym c.self.view_is) (c.requires.counted (c.args.past - 1) (c.requires.last some)))

pub invariant_of-self : goal.invariant_of-self
invariant_of-self c =
    let IsFar : ℕ → Type 0 = IsBitOf c.args.bits.now c.args.first c.args.past in
    let old = cell_marks c.self.inside in
    let counted = λ (far : ℕ) (is : IsFar far).
    let C : CellMarks → Type 0 = λ marks. IsCountedIn marks (record { rule = c.args.rule; from = c.args.from; to = far }) in
    subst C (sym c.self.view_is) (c.requires.counted far is) in
    record {
      marks = rows_kept old c.set_bits_of.new.self c.args.rule c.args.from IsFar c.set_bits_of.ensures c.self.invariant.marks counted;
      each_rule = c.self.invariant.each_rule;
      each_start = c.raise.ensures.as_many ∙ c.self.invariant.each_start;
      rules = c.self.invariant.rules;
      starts = starts_flagged old c.set_bits_of.new.self c.args.rule c.args.from IsFar true c.self.inside.begun.items c.raise.new.flags.items c.set_bits_of.ensures c.raise.ensures (λ _. (c.args.first, c.requires.first (omega arith)), λ _. refl) c.self.invariant.starts;
    }

pub returns-clause-marked : goal.returns-clause-marked
returns-clause-marked c =
    let IsFar : ℕ → Type 0 = IsBitOf c.args.bits.now c.args.first c.args.past in
    let old = cell_marks c.self.inside in
    let new = with_rows old c.set_bits_of.new.self in
    let M : CellMarks → Type 0 = λ marks. AreMarkedToo marks new (λ cell. (cell.rule ≡ c.args.rule) × (cell.from ≡ c.args.from) × IsFar cell.to) in
    subst M c.self.view_is (rows_marked old c.set_bits_of.new.self c.args.rule c.args.from IsFar c.set_bits_of.ensures)

pub returns-clause-in_row : goal.returns-clause-in_row
returns-clause-in_row c =
    in_rows (cell_marks c.self.inside) c.set_bits_of.new.self c.args.rule c.args.from (IsBitOf c.args.bits.now c.args.first c.args.past) c.set_bits_of.ensures
