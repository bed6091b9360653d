-- What the cells of a row demand: for all positions at once at which an argument may begin, and from which others lead on.
use Rattle.std.specs.Prelude.{◌↔◌, ℕ, ◌+◌, ◌-◌, ◌*◌, ◌≤◌, List, length}
use Rattle.std.specs.List.{AllByRecursion}
use Rattle.adp_model.specs.declared.cell.Cell.{Cell}
use Rattle.adp_model.specs.declared.grammar.Arg.{Arg}
use Rattle.adp_model.specs.PosedProblem.{PosedProblem}
use Rattle.adp_model.specs.Splits.{FitsSpan}
use Rattle.adp_model.specs.Demand.{IsDemandedChild}
use Rattle.cell_tables.specs.Bits.{IsBitOf}
use Rattle.cell_tables.specs.Marks.{CellMarks, AreInRows, AreMarkedToo, IsMarkedInRow}
use Rattle.split_lines.specs.declared.kept.Lengths.{Lengths}
use Rattle.split_lines.specs.Kept.{IsAmong as HasLength}
use Rattle.split_lines.specs.Laid.{Demands, IsCellOf}
use Rattle.viable_splits.specs.Placing.{Cover, on_span}
use Rattle.cell_demands.specs.declared.rows.Boundaries.{Boundaries}
use Rattle.cell_demands.specs.declared.rows.BoundaryBits.{BoundaryBits}
use Rattle.cell_demands.specs.declared.rows.Positions.{Positions}
use Rattle.cell_demands.specs.declared.rows.RowRoom.{RowRoom}
use Rattle.cell_demands.specs.LetterRows.{AreLetterRows}
use Rattle.cell_demands.specs.PlaceBits.{HasBit, HaveBits}

-- the position is one of these
abbrev pub IsAmong : Positions → ℕ → Type 0
IsAmong positions place = IsBitOf positions.bits.now positions.first positions.past place

-- they lie in the word, and there is a bit for each
pub record AreInWord (p : PosedProblem) (positions : Positions) : Type 0 where
  pub in_order : positions.first ≤ positions.past
  pub within : positions.past ≤ length p.word + 1
  pub short : positions.past ≤ 4001
  pub bits : positions.past ≤ 64 * length positions.bits.now

-- the argument may end here, from one of the positions that are reached
abbrev pub IsReachedBy : PosedProblem → Arg → (ℕ → Type 0) → ℕ → Type 0
IsReachedBy p argument IsReached end = (from : ℕ) × IsReached from × FitsSpan p (on_span argument from end)

-- the argument may go on from here to one of the positions behind
abbrev pub GoesOn : PosedProblem → Arg → (ℕ → Type 0) → ℕ → Type 0
GoesOn p argument IsBehind from = (end : ℕ) × FitsSpan p (on_span argument from end) × IsBehind end

-- the cell is the argument's, from one of the positions that are reached to one of those behind
abbrev pub IsBetween : PosedProblem → Arg → (ℕ → Type 0) → (ℕ → Type 0) → Cell → Type 0
IsBetween p argument IsReached IsBehind cell =
    (from end : ℕ) × IsReached from × FitsSpan p (on_span argument from end) × IsBehind end
    × IsCellOf argument from end cell

-- the arguments lead on from here to one of the wanted ends
abbrev pub LeadsOn : PosedProblem → List Arg → (ℕ → Type 0) → ℕ → Type 0
LeadsOn p arguments IsWanted from = (to : ℕ) × IsWanted to × Cover p arguments from to

-- the arguments demand the cell, from one of the positions that are reached to a wanted end
abbrev pub DemandsOfRow : PosedProblem → List Arg → (ℕ → Type 0) → (ℕ → Type 0) → Cell → Type 0
DemandsOfRow p arguments IsReached IsWanted cell =
    (from to : ℕ) × IsReached from × IsWanted to × Demands p arguments from to cell

-- the arguments demand the cell from a position to an end whose bit is set, if they may have so many letters
abbrev pub DemandsOfLengths : PosedProblem → List Arg → Lengths → ℕ → List ℕ → Cell → Type 0
DemandsOfLengths p arguments lengths from ends cell =
    (to : ℕ) × HasBit ends to × HasLength lengths (to - from) × Demands p arguments from to cell

-- one of the cells of the rule that begin here and end where bits are set demands the child
abbrev pub IsChildOfEnds : PosedProblem → ℕ → ℕ → List ℕ → Cell → Type 0
IsChildOfEnds p rule from ends child =
    (to : ℕ) × HasBit ends to × IsDemandedChild p (record { rule = rule; from = from; to = to }) child

-- one of the cells of the rule that begin here and are marked in their rows does
abbrev pub IsChildOfRow : PosedProblem → CellMarks → ℕ → ℕ → Cell → Type 0
IsChildOfRow p marks rule from child =
    (to : ℕ) × IsMarkedInRow marks (record { rule = rule; from = from; to = to })
    × IsDemandedChild p (record { rule = rule; from = from; to = to }) child

-- the cells that were marked and those of which it holds are marked now, these in their rows
pub record AreMarkedInRows (old new : CellMarks) (Holds : Cell → Type 0) : Type 0 where
  pub marked : AreMarkedToo old new Holds
  pub in_rows : AreInRows new Holds

-- bits for all positions of the word
pub record HaveBoundaryBits (p : PosedProblem) (boundary : BoundaryBits) : Type 0 where
  pub reached : HaveBits p boundary.reached.items
  pub leads : HaveBits p boundary.leads.items

-- its bits tell where the argument behind which it lies may end, and not yet from where others lead on
pub record IsBehindArgument (p : PosedProblem) (argument : Arg) (IsReached : ℕ → Type 0) (boundary : BoundaryBits) : Type 0 where
  pub bits : HaveBoundaryBits p boundary
  pub reached : (end : ℕ) → HasBit boundary.reached.items end ↔ IsReachedBy p argument IsReached end
  pub clear : (end : ℕ) → HasBit boundary.leads.items end → ⊥

pub record HaveAllBits (p : PosedProblem) (boundaries : Boundaries) : Type 0 where
  pub start : HaveBoundaryBits p boundaries.start
  pub inner : AllByRecursion (HaveBoundaryBits p) boundaries.inner
  pub enough : 3 ≤ length boundaries.inner

pub record IsRoomFor (p : PosedProblem) (room : RowRoom) : Type 0 where
  pub ends : HaveBits p room.ends.items
  pub boundaries : HaveAllBits p room.boundaries
  pub letters : AreLetterRows p room.letters

-- an alternative has so many arguments
abbrev pub AreFew : List Arg → Type 0
AreFew arguments = (1 ≤ length arguments) × (length arguments ≤ 4)

-- bits for the boundaries between the arguments, of which there is one, and for where they begin
pub record HasRoomFor (p : PosedProblem) (arguments : List Arg) (inner : List BoundaryBits) (leads : List ℕ) : Type 0
  where
    pub some : 1 ≤ length arguments
    pub enough : length arguments ≤ length inner + 1
    pub inner_have : AllByRecursion (HaveBoundaryBits p) inner
    pub leads_have : HaveBits p leads
