-- The notes of tails, row by row.
use Rattle.std.specs.Prelude.{◌≡◌, ◌⊎◌, ℕ, ℤ, Option, Some, None, List, [], slice_get}
use Rattle.adp_model.specs.PosedProblem.{PosedProblem}
use Rattle.cell_answers.specs.declared.tails.Note.{Note}
use Rattle.cell_answers.specs.declared.tails.Note.TheVariants.{Open, Without, Greatest}
use Rattle.cell_answers.specs.declared.tails.Tail.{Tail}
use Rattle.cell_answers.specs.declared.tails.TailRow.{TailRow}
use Rattle.cell_answers.specs.declared.tails.TailRows.{TailRows}
use Rattle.cell_answers.specs.Tails.{IsTailTotal}

-- the note tells this of a tail from the one position to the other
abbrev pub Tells : Note → ℕ → ℕ → Option ℤ → Type 0
Tells Open from to total = ⊥
Tells (Without start end) from to total = (from ≡ start) × (to ≡ end) × (total ≡ None)
Tells (Greatest start end number) from to total = (from ≡ start) × (to ≡ end) × (total ≡ Some number)

-- what the notes tell is true of the tail, wherever they stand
abbrev pub AreTrueNotes : PosedProblem → Tail → List Note → Type 0
AreTrueNotes p tail notes =
    (place from to : ℕ) (note : Note) (total : Option ℤ) → slice_get notes place ≡ Some note → Tells note from to total
    → IsTailTotal p tail from to total

-- what the notes of the row tell is true of its tail
abbrev pub IsTrueRow : PosedProblem → TailRow → Type 0
IsTrueRow p row = AreTrueNotes p row.tail row.notes.items

abbrev pub AreTrueRows : PosedProblem → List TailRow → Type 0
AreTrueRows p rows = (place : ℕ) (row : TailRow) → slice_get rows place ≡ Some row → IsTrueRow p row

-- nothing is noted in them
abbrev pub AreEmpty : List TailRow → Type 0
AreEmpty rows = (place : ℕ) (row : TailRow) → slice_get rows place ≡ Some row → row.notes.items ≡ []

-- the row of the tail stands here
pub record IsPlaceOf (kept : TailRows) (tail : Tail) (place : ℕ) : Type 0 where
  pub row : TailRow
  pub there : slice_get kept.rows.items place ≡ Some row
  pub same : row.tail ≡ tail

-- in the row nothing is noted that was not noted before, but this note
pub record IsNoted (old new : TailRow) (note : Note) : Type 0 where
  pub tail : new.tail ≡ old.tail
  pub notes : (place : ℕ) (it : Note) → slice_get new.notes.items place ≡ Some it
      → (it ≡ Open) ⊎ (it ≡ note) ⊎ (slice_get old.notes.items place ≡ Some it)
