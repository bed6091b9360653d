-- Totals of arguments that are laid by the first one, over its ends one after another.
use Rattle.std.specs.Prelude.{◌≡◌, ℕ, ◌-◌, ◌<◌, ◌≤◌, ℤ, Some, List, ◌∷◌, slice_get}
use Rattle.adp_model.specs.declared.grammar.Arg.TheVariants.{Rule}
use Rattle.adp_model.specs.declared.cell.Cell.{Cell}
use Rattle.adp_model.specs.PosedProblem.{PosedProblem, IsSpan}
use Rattle.adp_model.specs.Splits.{FitsSpan}
use Rattle.adp_model.specs.Bellman.{HasBestScore}
use Rattle.viable_splits.specs.Placing.{on_span}
use Rattle.split_lines.specs.Laid.{Demands}
use Rattle.cell_tables.specs.Spans.{value_at}
use Rattle.cell_tables.specs.Tables.{Table}
use Rattle.score_numbers.specs.Greatest.{IsGreatestOf}
use Rattle.cell_answers.specs.declared.noted_ends.LaidArguments.{LaidArguments}
use Rattle.cell_answers.specs.declared.noted_ends.Reached.{Reached}
use Rattle.cell_answers.specs.declared.noted_ends.SideBySide.{SideBySide}
use Rattle.cell_answers.specs.declared.tails.Note.{Note}
use Rattle.cell_answers.specs.declared.tails.Tail.{Tail}
use Rattle.cell_answers.specs.ArgumentEntries.{AreProperNumbers, entries_of}
use Rattle.cell_answers.specs.Entries.{HasEntry}
use Rattle.cell_answers.specs.TailRows.{AreTrueNotes}
use Rattle.cell_answers.specs.Tails.{IsTail}
use Rattle.cell_answers.specs.Through.{HasTotalAt}
use Rattle.cell_answers.specs.Totals.{AreLow, AreWeighted}

-- the arguments have factors, a span, and entries of the cells that they demand there, and their totals are low
pub record AreLaidOut (p : PosedProblem) (table : Table ℤ) (laid : LaidArguments) : Type 0 where
  pub weighted : AreWeighted p (laid.first.now ∷ laid.others.now) (laid.factor ∷ laid.factors.now)
  pub span : IsSpan p.word laid.from laid.to
  pub scored : (cell : Cell) → Demands p (laid.first.now ∷ laid.others.now) laid.from laid.to cell
      → HasEntry table cell
  pub low : AreLow p (laid.first.now ∷ laid.others.now) (laid.factor ∷ laid.factors.now) laid.from laid.to

-- the first one may end at each position from `first` on and before `past`
abbrev pub FitBetween : PosedProblem → LaidArguments → ℕ → ℕ → Type 0
FitBetween p laid first past =
    (end : ℕ) → first ≤ end → end < past → FitsSpan p (on_span laid.first.now laid.from end)

-- totals of the arguments whose first one ends here
abbrev pub HasTotalOf : PosedProblem → LaidArguments → ℕ → ℤ → Type 0
HasTotalOf p laid end =
    HasTotalAt p (HasBestScore p) laid.first.now laid.others.now laid.factor laid.factors.now laid.from end laid.to

-- totals of the arguments whose first one ends before this position
abbrev pub HasTotalBefore : PosedProblem → LaidArguments → ℕ → ℤ → Type 0
HasTotalBefore p laid bound total = (end : ℕ) × (end < bound) × HasTotalOf p laid end total

-- the greatest of them is known
abbrev pub IsReached : PosedProblem → LaidArguments → Reached → Type 0
IsReached p laid reached = IsGreatestOf (HasTotalBefore p laid reached.end) reached.greatest

-- the first one is a rule, and these are entries of its cells, by their ends from `first` on and before `past`
pub record AreEntriesOf (table : Table ℤ) (laid : LaidArguments) (first past : ℕ) (entries : List ℤ) : Type 0 where
  pub rule : ℕ
  pub is_rule : laid.first.now ≡ Rule rule
  pub values : (end : ℕ) → first ≤ end → end < past
      → slice_get entries (end - first) ≡ value_at table.rows rule laid.from end

-- it holds of all of them
abbrev pub AreAll : {N : Type 0} → (N → Type 0) → List N → Type 0
AreAll Holds numbers = (place : ℕ) (number : _) → slice_get numbers place ≡ Some number → Holds number

-- what the notes tell is true of the others
pub record AreNotesOf (p : PosedProblem) (laid : LaidArguments) (notes : List Note) : Type 0 where
  pub tail : Tail
  pub is_tail : IsTail p tail laid.others.now laid.factors.now
  pub are_true : AreTrueNotes p tail notes

-- the entries are those of the first one from `first` on and before `past`, and the others are the tail
pub record IsSideBySide (table : Table ℤ) (laid : LaidArguments) (first past : ℕ) (sides : SideBySide) : Type 0 where
  pub begins : sides.entries.first ≡ first
  pub entries : AreEntriesOf table laid first past (entries_of sides.entries)
  pub proper : AreProperNumbers sides.entries.numbers
  pub tail : IsTail table.problem sides.tail laid.others.now laid.factors.now
