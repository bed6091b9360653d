use Rattle.std.proofs.Common.{◌≡◌, ◌<◌, ◌≤◌, length, sym, subst, ⊎_elim, ◌∙◌}
use Rattle.std.proofs.lemmas.Bool.{false≢true}
use Rattle.adp_model.specs.Cells.{AreCountedEnds}
use Rattle.cell_tables.specs.Bits.{IsSet}
use Rattle.cell_tables.specs.Marks.{CellMarks, AreInRows, AreMarkedToo, IsMarked}
use Rattle.cell_tables.specs.MarksFields.{cell_marks}
use Rattle.cell_tables.proofs.CellMarks.{with_rows}
use Rattle.cell_tables.proofs.FlaggedMarks.{none_marked, starts_flagged}
use Rattle.cell_tables.proofs.GatheredMarks.{ends_there, still_marks, same_marked, row_gathered}
use Rattle.cell_tables.proofs.marks.Marks.gather_rule.Goals as goal
use Rattle.cell_tables.proofs.marks.Marks.gather_rule.Goals.{After-ends-ends}

ends : (c : After-ends-ends) → AreCountedEnds c.self.inside.layout.grammar (length c.self.inside.layout.word) c.args.rule c.args.from c.ends-ends.result.start c.ends-ends.result.end
ends c = c.ends-ends.ensures.ends

pub returns-then-not-is_in_columns-clause-same : goal.returns-then-not-is_in_columns-clause-same
returns-then-not-is_in_columns-clause-same c = none_marked c.args.self.now _ (λ cell none. none)

pub returns-then-not-is_in_columns-clause-gathered : goal.returns-then-not-is_in_columns-clause-gathered
returns-then-not-is_in_columns-clause-gathered c = λ cell (r, f, marked).
    ⊎_elim (λ row. row) (λ column. absurd (false≢true (sym c.if-not-is_in_columns.true ∙ c.is_in_columns.ensures.1 (cell, r, column)))) marked

pub gather_row-any-requires-clause-there : goal.gather_row-any-requires-clause-there
gather_row-any-requires-clause-there c =
    let before = (goal.at.gather_row-any-requires-clause-there c).After-ends-ends in
    ends_there (cell_marks c.self.inside) c.self.invariant.marks c.args.rule c.args.from c.ends-ends.result.start c.ends-ends.result.end (ends before)

pub invariant_of-self : goal.invariant_of-self
invariant_of-self c =
    let before = (goal.at.invariant_of-self c).After-ends-ends in
    let old = cell_marks c.self.inside in
    let first = c.ends-ends.result.start in
    let past = c.ends-ends.result.end in
    record {
      marks = still_marks old c.gather_row-any.new.rows c.args.rule c.args.from first past c.self.invariant.marks (ends before) c.gather_row-any.ensures.set;
      each_rule = c.self.invariant.each_rule;
      each_start = c.raise.ensures.as_many ∙ c.self.invariant.each_start;
      rules = c.self.invariant.rules;
      starts = starts_flagged old c.gather_row-any.new.rows c.args.rule c.args.from (λ to. (first ≤ to) × (to < past) × IsSet old.columns c.args.rule to c.args.from) c.gather_row-any.result c.self.inside.begun.items c.raise.new.flags.items
          c.gather_row-any.ensures.set c.raise.ensures c.gather_row-any.ensures.any c.self.invariant.starts;
    }

pub returns-clause-same : goal.returns-clause-same
returns-clause-same c =
    let before = (goal.at.returns-clause-same c).After-ends-ends in
    let old = cell_marks c.self.inside in
    let new = with_rows old c.gather_row-any.new.rows in
    let S : CellMarks → Type 0 = λ old. AreMarkedToo old new (λ cell. ⊥) in
    subst S c.self.view_is (same_marked old c.gather_row-any.new.rows c.args.rule c.args.from c.ends-ends.result.start c.ends-ends.result.end c.self.invariant.marks (ends before) c.gather_row-any.ensures.set)

pub returns-clause-gathered : goal.returns-clause-gathered
returns-clause-gathered c =
    let before = (goal.at.returns-clause-gathered c).After-ends-ends in
    let old = cell_marks c.self.inside in
    let new = with_rows old c.gather_row-any.new.rows in
    let G : CellMarks → Type 0 = λ old. AreInRows new (λ cell. (cell.rule ≡ c.args.rule) × (cell.from ≡ c.args.from) × IsMarked old cell) in
    subst G c.self.view_is (row_gathered old c.gather_row-any.new.rows c.args.rule c.args.from c.ends-ends.result.start c.ends-ends.result.end c.self.invariant.marks (ends before) c.gather_row-any.ensures.set)
