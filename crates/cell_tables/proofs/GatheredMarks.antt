-- Marks of columns that go into rows: the marks of a rule and a start, and those of more rules.
use Rattle.std.proofs.Common.{◌≡◌, ℕ, ◌+◌, ◌/◌, ◌<◌, ◌≤◌, length, refl, sym, subst, inl, inr, ⊎_elim, ◌∙◌, arith}
use Rattle.std.specs.Prelude.{IsSome}
use Rattle.std.proofs.lemmas.Bool.{cases_lt}
use Rattle.adp_model.specs.declared.cell.Cell.{Cell}
use Rattle.adp_model.specs.Cells.{IsCounted, AreCountedEnds}
use Rattle.cell_tables.specs.Spans.{Spans, value_at}
use Rattle.cell_tables.specs.Bits.{AreSetToo, IsSet}
use Rattle.cell_tables.specs.Marks.{CellMarks, AreInRows, AreMarkedToo, AreMarks, IsMarked, IsMarkedInRow}
use Rattle.cell_tables.proofs.Tables.{same_some}

-- the counted cells of a row are there
pub ends_there : (marks : CellMarks) → AreMarks marks → (rule from first past : ℕ) → AreCountedEnds marks.problem.grammar (length marks.problem.word) rule from first past
    → (to : ℕ) → first ≤ to → to < past → IsSome (value_at marks.rows rule from (to / 64))
ends_there marks are rule from first past ends to low high = are.row_there (record { rule = rule; from = from; to = to }) ((ends to).1 (low, high))

module _ (old : CellMarks) (rows : Spans ℕ) (rule from first past : ℕ) (marks : AreMarks old) (ends : AreCountedEnds old.problem.grammar (length old.problem.word) rule from first past) (now : AreSetToo old.rows rows rule from (λ to. (first ≤ to) × (to < past) × IsSet old.columns rule to from)) where
  abbrev pub gathered : CellMarks
  gathered = record { problem = old.problem; rows = rows; columns = old.columns }

  was_marked : (cell : Cell) → IsMarked gathered cell → IsMarked old cell
  was_marked cell (inr column) = inr column
  was_marked cell (inl row) = elim ((now.exact cell.rule cell.from cell.to).0 row) [
    | inl was ↦ inl was
    | inr (r, f, (low, high, set)) ↦ inr (subst (λ k. IsSet old.columns k cell.to cell.from) (sym r) (subst (λ n. IsSet old.columns rule cell.to n) (sym f) set))
  ]

  row_stays : (cell : Cell) → IsMarkedInRow old cell → IsMarkedInRow gathered cell
  row_stays cell row = (now.exact cell.rule cell.from cell.to).1 (inl row)

  pub still_marks : AreMarks gathered
  still_marks = record {
    row_there = λ cell counted. same_some old.rows rows now.same cell.rule cell.from (cell.to / 64) (marks.row_there cell counted);
    column_there = marks.column_there;
    counted = λ cell marked. marks.counted cell (was_marked cell marked);
  }

  pub same_marked : AreMarkedToo old gathered (λ cell. ⊥)
  same_marked = record {
    problem = refl;
    exact = λ cell. (λ marked. inl (was_marked cell marked), λ either. ⊎_elim (λ was. ⊎_elim (λ row. inl (row_stays cell row)) (λ column. inr column) was) (λ none. absurd none) either);
    rows_stay = row_stays;
  }

  pub row_gathered : AreInRows gathered (λ cell. (cell.rule ≡ rule) × (cell.from ≡ from) × IsMarked old cell)
  row_gathered cell (r, f, inl row) = row_stays cell row
  row_gathered cell (r, f, inr column) =
      let counted = marks.counted cell (inr column) in
      let here = subst (λ k. IsCounted old.problem.grammar (length old.problem.word) (record { rule = k; from = cell.from; to = cell.to })) r counted in
      let there = subst (λ n. IsCounted old.problem.grammar (length old.problem.word) (record { rule = rule; from = n; to = cell.to })) f here in
      let range = (ends cell.to).0 there in
      let set = subst (λ n. IsSet old.columns rule cell.to n) f (subst (λ k. IsSet old.columns k cell.to cell.from) r column) in
      (now.exact cell.rule cell.from cell.to).1 (inr (r, f, (range.0, range.1, set)))

-- ---- rule by rule

-- the marks stay, and those of the first rules at this start are in rows
pub record AreGathered (old new : CellMarks) (from rules : ℕ) : Type 0 where
  pub same : AreMarkedToo old new (λ cell. ⊥)
  pub in_rows : AreInRows new (λ cell. (cell.rule < rules) × (cell.from ≡ from) × IsMarked old cell)

pub one_more_gathered : (old now new : CellMarks) (from rule : ℕ) → AreGathered old now from rule → AreMarkedToo now new (λ cell. ⊥) → AreInRows new (λ cell. (cell.rule ≡ rule) × (cell.from ≡ from) × IsMarked now cell) → AreGathered old new from (rule + 1)
one_more_gathered old now new from rule before same here = record {
  same = record {
    problem = same.problem ∙ before.same.problem;
    exact = λ cell. (
      λ marked. ⊎_elim (λ was. (before.same.exact cell).0 was) (λ none. absurd none) ((same.exact cell).0 marked),
      λ either. (same.exact cell).1 (inl ((before.same.exact cell).1 either)),
    );
    rows_stay = λ cell row. same.rows_stay cell (before.same.rows_stay cell row);
  };
  in_rows = λ cell (low, at, marked). elim (cases_lt cell.rule rule) [
    | inl early ↦ same.rows_stay cell (before.in_rows cell (early, at, marked))
    | inr last ↦ here cell (omega arith, at, (before.same.exact cell).1 (inl marked))
  ];
}
