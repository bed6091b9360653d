-- Marks of cells: what a write of bits in rows or in columns marks.
use Rattle.std.proofs.Common.{◌≡◌, ◌↔◌, ℕ, ◌/◌, length, refl, sym, ap, subst, inl, inr, ⊎_elim}
use Rattle.adp_model.specs.declared.cell.Cell.{Cell}
use Rattle.adp_model.specs.PosedProblem.{PosedProblem}
use Rattle.adp_model.specs.Cells.{IsCounted}
use Rattle.cell_tables.specs.Spans.{Spans}
use Rattle.cell_tables.specs.Bits.{AreSetToo, IsSet}
use Rattle.cell_tables.specs.Marks.{AreInRows, AreMarkedToo, AreMarks, CellMarks, IsMarked}
use Rattle.cell_tables.proofs.Tables.{same_some}

-- marks with other rows or other columns
abbrev pub with_rows : CellMarks → Spans ℕ → CellMarks
with_rows marks rows = record { problem = marks.problem; rows = rows; columns = marks.columns }

abbrev pub with_columns : CellMarks → Spans ℕ → CellMarks
with_columns marks columns = record { problem = marks.problem; rows = marks.rows; columns = columns }

abbrev pub IsCountedIn : CellMarks → Cell → Type 0
IsCountedIn marks cell = IsCounted marks.problem.grammar (length marks.problem.word) cell

pub no_marks : (problem : PosedProblem) (rows columns : Spans ℕ) → ((rule near far : ℕ) → IsSet rows rule near far → ⊥) → ((rule near far : ℕ) → IsSet columns rule near far → ⊥) → (cell : Cell) → IsMarked (record { problem = problem; rows = rows; columns = columns }) cell → ⊥
no_marks problem rows columns none_rows none_columns cell marked =
    ⊎_elim (λ row. none_rows cell.rule cell.from cell.to row) (λ column. none_columns cell.rule cell.to cell.from column) marked

-- a cell by its parts
counted_at : (marks : CellMarks) (cell : Cell) (rule from to : ℕ) → cell.rule ≡ rule → cell.from ≡ from → cell.to ≡ to → IsCountedIn marks (record { rule = rule; from = from; to = to }) → IsCountedIn marks cell
counted_at marks cell rule from to e f g counted =
    let same : cell ≡ record { rule = rule; from = from; to = to } = λ k. record { rule = e k; from = f k; to = g k } in
    subst (IsCountedIn marks) (sym same) counted

pub cell_by_parts : (cell other : Cell) → ((other.rule ≡ cell.rule) × (other.from ≡ cell.from) × (other.to ≡ cell.to)) ↔ (other ≡ cell)
cell_by_parts cell other = (
  λ parts. λ k. record { rule = parts.0 k; from = parts.1 k; to = parts.2 k },
  λ e. (ap (λ (x : Cell). x.rule) e, ap (λ (x : Cell). x.from) e, ap (λ (x : Cell). x.to) e),
)

module _ (old : CellMarks) (rows : Spans ℕ) (rule from : ℕ) (IsFar : ℕ → Type 0) (too : AreSetToo old.rows rows rule from IsFar) where
  abbrev InRow : Cell → Type 0
  InRow cell = (cell.rule ≡ rule) × (cell.from ≡ from) × IsFar cell.to

  pub rows_marked : AreMarkedToo old (with_rows old rows) InRow
  rows_marked = record {
    problem = refl;
    exact = λ cell. (
      λ marked. ⊎_elim
          (λ row. ⊎_elim (λ was. inl (inl was)) (λ here. inr here) ((too.exact cell.rule cell.from cell.to).0 row))
          (λ column. inl (inr column)) marked,
      λ either. ⊎_elim
          (λ marked. ⊎_elim (λ row. inl ((too.exact cell.rule cell.from cell.to).1 (inl row))) (λ column. inr column) marked)
          (λ here. inl ((too.exact cell.rule cell.from cell.to).1 (inr here))) either,
    );
    rows_stay = λ cell row. (too.exact cell.rule cell.from cell.to).1 (inl row);
  }

  pub in_rows : AreInRows (with_rows old rows) InRow
  in_rows cell here = (too.exact cell.rule cell.from cell.to).1 (inr here)

  pub rows_kept : AreMarks old → ((far : ℕ) → IsFar far → IsCountedIn old (record { rule = rule; from = from; to = far })) → AreMarks (with_rows old rows)
  rows_kept marks counted = record {
    row_there = λ cell is. same_some old.rows rows too.same cell.rule cell.from (cell.to / 64) (marks.row_there cell is);
    column_there = marks.column_there;
    counted = λ cell marked. ⊎_elim
        (λ was. marks.counted cell was)
        (λ (e, f, is). counted_at old cell rule from cell.to e f refl (counted cell.to is)) ((rows_marked.exact cell).0 marked);
  }

module _ (old : CellMarks) (columns : Spans ℕ) (rule to : ℕ) (IsFar : ℕ → Type 0) (too : AreSetToo old.columns columns rule to IsFar) where
  abbrev InColumn : Cell → Type 0
  InColumn cell = (cell.rule ≡ rule) × (cell.to ≡ to) × IsFar cell.from

  pub columns_marked : AreMarkedToo old (with_columns old columns) InColumn
  columns_marked = record {
    problem = refl;
    exact = λ cell. (
      λ marked. ⊎_elim
          (λ row. inl (inl row))
          (λ column. ⊎_elim (λ was. inl (inr was)) (λ here. inr here) ((too.exact cell.rule cell.to cell.from).0 column)) marked,
      λ either. ⊎_elim
          (λ marked. ⊎_elim (λ row. inl row) (λ column. inr ((too.exact cell.rule cell.to cell.from).1 (inl column))) marked)
          (λ here. inr ((too.exact cell.rule cell.to cell.from).1 (inr here))) either,
    );
    rows_stay = λ cell row. row;
  }

  pub columns_kept : AreMarks old → ((far : ℕ) → IsFar far → IsCountedIn old (record { rule = rule; from = far; to = to })) → AreMarks (with_columns old columns)
  columns_kept marks counted = record {
    row_there = marks.row_there;
    column_there = λ cell is. same_some old.columns columns too.same cell.rule cell.to (cell.from / 64) (marks.column_there cell is);
    counted = λ cell marked. ⊎_elim
        (λ was. marks.counted cell was)
        (λ (e, f, is). counted_at old cell rule cell.from to e refl f (counted cell.from is)) ((columns_marked.exact cell).0 marked);
  }

pub marked_like : (old new : CellMarks) (Here There : Cell → Type 0) → ((cell : Cell) → Here cell → There cell) → ((cell : Cell) → There cell → Here cell) → AreMarkedToo old new Here → AreMarkedToo old new There
marked_like old new Here There to from marked = record {
  problem = marked.problem;
  exact = λ cell. (
    λ is. ⊎_elim (λ was. inl was) (λ here. inr (to cell here)) ((marked.exact cell).0 is),
    λ either. (marked.exact cell).1 (⊎_elim (λ was. inl was) (λ there. inr (from cell there)) either),
  );
  rows_stay = marked.rows_stay;
}
