use Rattle.std.proofs.Common.{◌≡◌, ℕ, Bool, false, List, length, replicate, ap, subst, ◌∙◌}
use Rattle.std.proofs.lemmas.List.{length-replicate}
use Rattle.adp_model.specs.declared.cell.Cell.{Cell}
use Rattle.adp_model.specs.PosedProblem.{PosedProblem}
use Rattle.adp_model.specs.Cells.{IsCounted}
use Rattle.cell_tables.proofs.CellMarks.{no_marks}
use Rattle.cell_tables.proofs.FlaggedMarks.{none_flagged}
use Rattle.cell_tables.proofs.marks.Marks.new.Goals as goal

clear_each : (count : ℕ) (flags : List Bool) → flags ≡ replicate count false → length flags ≡ count
clear_each count flags is = ap length is ∙ length-replicate count false

pub invariant_of-result : goal.invariant_of-result
invariant_of-result c =
    let rows = c.in_ok-rows.rows in
    let columns = c.in_ok-columns.columns in
    let p = c.in_ok-shared.shared in
    let is : p ≡ c.args.layout.now = c.in_ok-shared.ensures in
    let C : Cell → PosedProblem → Type 0 = λ cell q. IsCounted q.grammar (length q.word) cell in
    record {
      marks = record {
        row_there = λ cell counted. c.in_ok-rows.ensures.there cell.rule cell.from cell.to (subst (C cell) is counted);
        column_there = λ cell counted.
            c.in_ok-columns.ensures.there cell.rule cell.to cell.from (subst (C cell) is counted);
        counted = λ cell marked.
            absurd (no_marks p rows columns c.in_ok-rows.ensures.none c.in_ok-columns.ensures.none cell marked);
      };
      each_rule = clear_each _ c.in_ok-in_columns.in_columns.items (c.in_ok-in_columns.ensures.items_if_clones_equal (λ other e. e))
          ∙ ap length c.as_slice.ensures
          ∙ ap (λ (q : PosedProblem). length q.grammar.rules) (c.problem.view_is ∙ c.problem-problem.ensures);
      each_start = clear_each _ c.in_ok-begun.begun.items (c.in_ok-begun.ensures.items_if_clones_equal (λ other e. e)) ∙ c.positions.ensures.same;
      rules = λ rule. (
        λ flagged. absurd (none_flagged c.in_ok-in_columns.in_columns.items _ rule (c.in_ok-in_columns.ensures.items_if_clones_equal (λ other e. e)) flagged),
        λ (cell, of_rule, column). absurd (c.in_ok-columns.ensures.none cell.rule cell.to cell.from column),
      );
      starts = λ from. (
        λ flagged. absurd (none_flagged c.in_ok-begun.begun.items _ from (c.in_ok-begun.ensures.items_if_clones_equal (λ other e. e)) flagged),
        λ (cell, begins, row). absurd (c.in_ok-rows.ensures.none cell.rule cell.from cell.to row),
      );
    }

pub returns-clause-none : goal.returns-clause-none
returns-clause-none c =
    no_marks c.in_ok-shared.shared c.in_ok-rows.rows c.in_ok-columns.columns c.in_ok-rows.ensures.none
    c.in_ok-columns.ensures.none
