-- Notes of cells: none at first, and what one more note leaves noted.
use Rattle.std.proofs.Common.{◌≡◌, ◌↔◌, ◌⊎◌, ℕ, length, sym, subst, inl, inr, ⊎_elim}
use Rattle.adp_model.specs.declared.cell.Cell.{Cell}
use Rattle.adp_model.specs.Cells.{IsCounted}
use Rattle.cell_tables.specs.Spans.{Spans}
use Rattle.cell_tables.specs.Bits.{AreSetToo, IsSet}
use Rattle.cell_tables.specs.Noted.{AreNotes, IsNoted, Notes}
use Rattle.cell_tables.proofs.CellMarks.{cell_by_parts}
use Rattle.cell_tables.proofs.Tables.{same_some}

module _ (old : Notes) (rows columns : Spans ℕ) (cell : Cell) (row : AreSetToo old.rows rows cell.rule cell.from (λ to. to ≡ cell.to)) (column : AreSetToo old.columns columns cell.rule cell.to (λ from. from ≡ cell.from)) where
  abbrev pub now : Notes
  now = record { problem = old.problem; rows = rows; columns = columns }

  pub noted_now : (other : Cell) → IsNoted now other ↔ (IsNoted old other ⊎ (other ≡ cell))
  noted_now other = (
    λ set. ⊎_elim (λ was. inl was) (λ parts. inr ((cell_by_parts cell other).0 parts)) ((row.exact other.rule other.from other.to).0 set),
    λ either. (row.exact other.rule other.from other.to).1 (⊎_elim (λ was. inl was) (λ e. inr ((cell_by_parts cell other).1 e)) either),
  )

  in_column : (other : Cell) → IsSet columns other.rule other.to other.from ↔ (IsSet old.columns other.rule other.to other.from ⊎ (other ≡ cell))
  in_column other = (
    λ set. ⊎_elim (λ was. inl was) (λ (r, t, f). inr ((cell_by_parts cell other).0 (r, f, t))) ((column.exact other.rule other.to other.from).0 set),
    λ either. (column.exact other.rule other.to other.from).1
        (⊎_elim (λ was. inl was) (λ e. let (r, f, t) = (cell_by_parts cell other).1 e in inr (r, t, f)) either),
  )

  pub notes_kept : AreNotes old → IsCounted old.problem.grammar (length old.problem.word) cell → AreNotes now
  notes_kept notes counted = record {
    row_there = λ other is. same_some old.rows rows row.same other.rule other.from _ (notes.row_there other is);
    column_there = λ other is. same_some old.columns columns column.same other.rule other.to _ (notes.column_there other is);
    together = λ other. (
      λ noted. (in_column other).1 (⊎_elim (λ was. inl ((notes.together other).0 was)) (λ e. inr e) ((noted_now other).0 noted)),
      λ set. (noted_now other).1 (⊎_elim (λ was. inl ((notes.together other).1 was)) (λ e. inr e) ((in_column other).0 set)),
    );
    counted = λ other noted. ⊎_elim
        (λ was. notes.counted other was)
        (λ e. subst (IsCounted old.problem.grammar (length old.problem.word)) (sym e) counted) ((noted_now other).0 noted);
  }
