use Rattle.std.proofs.Common.{◌≡◌, ℕ, ◌-◌, true, refl, sym, subst, ◌∙◌, arith}
use Rattle.adp_model.specs.declared.cell.Cell.{Cell}
use Rattle.cell_tables.specs.Bits.{IsBitOf}
use Rattle.cell_tables.specs.Marks.{CellMarks, AreMarkedToo}
use Rattle.cell_tables.specs.MarksFields.{cell_marks}
use Rattle.cell_tables.proofs.FlaggedMarks.{none_marked, rules_flagged}
use Rattle.cell_tables.proofs.CellMarks.{IsCountedIn, columns_kept, columns_marked, with_columns}
use Rattle.cell_tables.proofs.marks.Marks.mark_starts_of.Goals as goal

pub returns-then-first-past : goal.returns-then-first-past
returns-then-first-past c = none_marked c.args.self.now _ (λ cell is. omega (arith, is.2.from_first, is.2.before, c.if-first-past.true))

pub raise-requires : goal.raise-requires
raise-requires c =
    let cell : Cell = record { rule = c.args.rule; from = c.args.first; to = c.args.to } in
    let C : CellMarks → Type 0 = λ marks. IsCountedIn marks cell in
    let counted = subst C (sym c.self.view_is) (c.requires.counted c.args.first (c.requires.first (omega arith))) in
    omega (arith, counted.rule, c.self.invariant.each_rule)

pub set_bits_of-requires-clause-first : goal.set_bits_of-requires-clause-first
set_bits_of-requires-clause-first c = λ some.
    let C : CellMarks → Type 0 = λ marks. IsCountedIn marks (record { rule = c.args.rule; from = c.args.first; to = c.args.to }) in
    c.self.invariant.marks.column_there (record { rule = c.args.rule; from = c.args.first; to = c.args.to }) (subst C (sym c.self.view_is) (c.requires.counted c.args.first (c.requires.first some)))

pub set_bits_of-requires-clause-last : goal.set_bits_of-requires-clause-last
set_bits_of-requires-clause-last c = λ some.
    let C : CellMarks → Type 0 = λ marks. IsCountedIn marks (record { rule = c.args.rule; from = c.args.past - 1; to = c.args.to }) in
    c.self.invariant.marks.column_there (record { rule = c.args.rule; from = c.args.past - 1; to = c.args.to }) (subst C (sym c.self.view_is) (c.requires.counted (c.args.past - 1) (c.requires.last some)))

pub invariant_of-self : goal.invariant_of-self
invariant_of-self c =
    let IsFar : ℕ → Type 0 = IsBitOf c.args.bits.now c.args.first c.args.past in
    let old = cell_marks c.self.inside in
    let counted = λ (far : ℕ) (is : IsFar far).
    let C : CellMarks → Type 0 = λ marks. IsCountedIn marks (record { rule = c.args.rule; from = far; to = c.args.to }) in
    subst C (sym c.self.view_is) (c.requires.counted far is) in
    record {
      marks = columns_kept old c.set_bits_of.new.self c.args.rule c.args.to IsFar c.set_bits_of.ensures c.self.invariant.marks counted;
      each_rule = c.raise.ensures.as_many ∙ c.self.invariant.each_rule;
      each_start = c.self.invariant.each_start;
      rules = rules_flagged old c.set_bits_of.new.self c.args.rule c.args.to IsFar true c.self.inside.in_columns.items c.raise.new.flags.items c.set_bits_of.ensures c.raise.ensures (λ _. (c.args.first, c.requires.first (omega arith)), λ _. refl) c.self.invariant.rules;
      starts = c.self.invariant.starts;
    }

pub returns : goal.returns
returns c =
    let IsFar : ℕ → Type 0 = IsBitOf c.args.bits.now c.args.first c.args.past in
    let old = cell_marks c.self.inside in
    let new = with_columns old c.set_bits_of.new.self in
    let M : CellMarks → Type 0 = λ marks. AreMarkedToo marks new (λ cell. (cell.rule ≡ c.args.rule) × (cell.to ≡ c.args.to) × IsFar cell.from) in
    subst M c.self.view_is (columns_marked old c.set_bits_of.new.self c.args.rule c.args.to IsFar c.set_bits_of.ensures)
