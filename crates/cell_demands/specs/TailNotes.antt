-- The notes of tails, row by row.
use Rattle.std.specs.Prelude.{◌≡◌, ◌⊎◌, ℕ, Bool, true, false, Some, IfSome, List, [], slice_get}
use Rattle.adp_model.specs.declared.grammar.Arg.{Arg}
use Rattle.adp_model.specs.PosedProblem.{PosedProblem}
use Rattle.viable_splits.specs.Placing.{Cover}
use Rattle.cell_tables.specs.Marks.{CellMarks}
use Rattle.cell_demands.specs.declared.tails.EndNotes.{EndNotes}
use Rattle.cell_demands.specs.declared.tails.Tail.{Tail}
use Rattle.cell_demands.specs.declared.tails.TailRow.{TailRow}
use Rattle.cell_demands.specs.declared.tails.TailRows.{TailRows}
use Rattle.cell_demands.specs.declared.tails.Tails.{Tails}
use Rattle.cell_demands.specs.PlaceBits.{HasBit}
use Rattle.cell_demands.specs.Tails.{AreMarkedOn, IsTrueNote}

-- it is noted at the position whether the tail is laid
abbrev pub IsNote : EndNotes → ℕ → Bool → Type 0
IsNote end from true = HasBit end.laid.items from
IsNote end from false = HasBit end.known.items from × (HasBit end.laid.items from → ⊥)

-- the row has this note for these positions
pub record HasNote (row : TailRow) (from to : ℕ) (note : Bool) : Type 0 where
  pub end : EndNotes
  pub ends : slice_get row.ends.items to ≡ Some end
  pub notes : IsNote end from note

-- what is noted of the tail up to one end is true
abbrev pub AreTrueTo : PosedProblem → CellMarks → Tail → ℕ → EndNotes → Type 0
AreTrueTo p marks tail to end = (from : ℕ) (note : Bool) → IsNote end from note → IsTrueNote p marks tail from to note

-- the notes tell whether the arguments may have the letters from a position up to this one, where something is noted
pub record AreToldOf (p : PosedProblem) (marks : CellMarks) (arguments : List Arg) (to : ℕ) (end : EndNotes)
    : Type 0 where
  pub laid : (from : ℕ) → HasBit end.laid.items from → AreMarkedOn p marks arguments from to
  pub missed : (from : ℕ) → HasBit end.known.items from → (HasBit end.laid.items from → ⊥)
      → Cover p arguments from to → ⊥

-- what is noted in the row is true of its tail
abbrev pub IsTrueRow : PosedProblem → CellMarks → TailRow → Type 0
IsTrueRow p marks row =
    (from to : ℕ) (note : Bool) → HasNote row from to note → IsTrueNote p marks row.tail from to note

abbrev pub AreTrueRows : PosedProblem → CellMarks → List TailRow → Type 0
AreTrueRows p marks rows = (place : ℕ) (row : TailRow) → slice_get rows place ≡ Some row → IsTrueRow p marks row

-- what is noted is true
abbrev pub AreTrue : PosedProblem → CellMarks → Tails → Type 0
AreTrue p marks tails = IfSome tails.kept (λ kept. AreTrueRows p marks kept.rows.items)

-- nothing is noted in them
abbrev pub AreEmpty : List TailRow → Type 0
AreEmpty rows = (place : ℕ) (row : TailRow) → slice_get rows place ≡ Some row → row.ends.items ≡ []

abbrev pub HaveNoNotes : List EndNotes → Type 0
HaveNoNotes ends = (to : ℕ) (end : EndNotes) → slice_get ends to ≡ Some end
    → (from : ℕ) (note : Bool) → IsNote end from note → ⊥

-- the row of the tail stands here
pub record IsPlaceOf (kept : TailRows) (tail : Tail) (place : ℕ) : Type 0 where
  pub row : TailRow
  pub there : slice_get kept.rows.items place ≡ Some row
  pub same : row.tail ≡ tail

-- in the row nothing is noted that was not noted before, but this note for these positions
pub record IsNoted (old new : TailRow) (from to : ℕ) (note : Bool) : Type 0 where
  pub tail : new.tail ≡ old.tail
  pub notes : (at till : ℕ) (it : Bool) → HasNote new at till it
      → ((at ≡ from) × (till ≡ to) × (it ≡ note)) ⊎ HasNote old at till it

-- the same up to one end
abbrev pub IsPut : EndNotes → EndNotes → ℕ → Bool → Type 0
IsPut old new from note = (at : ℕ) (it : Bool) → IsNote new at it → ((at ≡ from) × (it ≡ note)) ⊎ IsNote old at it
