-- Where the letters stand that literals begin with, and so where an argument may begin.
use Rattle.std.specs.Prelude.{◌≡◌, ℕ, Some, List, slice_get}
use Rattle.std.specs.List.{AllByRecursion}
use Rattle.adp_model.specs.declared.grammar.Arg.{Arg}
use Rattle.adp_model.specs.PosedProblem.{PosedProblem}
use Rattle.adp_model.specs.Splits.{FitsSpan}
use Rattle.viable_splits.specs.Placing.{on_span}
use Rattle.cell_demands.specs.declared.letter_rows.LetterRow.{LetterRow}
use Rattle.cell_demands.specs.declared.letter_rows.LetterRows.{LetterRows}
use Rattle.cell_demands.specs.PlaceBits.{HasBit}

-- the bit of each position is set at which the letter stands
abbrev pub AreWithLetter : List ℕ → ℕ → List ℕ → Type 0
AreWithLetter word letter bits = (place : ℕ) → slice_get word place ≡ Some letter → HasBit bits place

abbrev pub IsLetterRow : List ℕ → LetterRow → Type 0
IsLetterRow word row = AreWithLetter word row.letter row.bits.items

abbrev pub AreLetterRows : PosedProblem → LetterRows → Type 0
AreLetterRows p letters = AllByRecursion (IsLetterRow p.word) letters.rows.items

-- the bit of each position is set at which the argument may begin
abbrev pub AreBegun : PosedProblem → Arg → List ℕ → Type 0
AreBegun p argument bits = (from end : ℕ) → FitsSpan p (on_span argument from end) → HasBit bits from
