-- Lines whose boundary has a position.
use Rattle.std.specs.Prelude.{◌≡◌, ℕ, ◌+◌, ◌<◌, ℤ, List, [], ◌∷◌, ◌++◌, length}
use Rattle.std.specs.List.{AllByRecursion, Contains}
use Rattle.adp_model.specs.declared.grammar.Arg.{Arg}
use Rattle.adp_model.specs.PosedProblem.{PosedProblem}
use Rattle.adp_model.specs.Splits.{AtRule}
use Rattle.viable_splits.specs.Placing.{on_span}
use Rattle.cell_answers.specs.declared.opened.LineArguments.{LineArguments}
use Rattle.cell_answers.specs.declared.opened.OpenedLine.{OpenedLine}
use Rattle.cell_answers.specs.ArgumentEntries.{AreProperNumbers, entries_of}
use Rattle.split_lines.specs.Laid.{IsFixed, AreBoundaries, LineParts}
use Rattle.score_numbers.specs.Limits.{AreLimited}
use Rattle.cell_answers.specs.Rows.{HasEntryAt}
use Rattle.cell_answers.specs.Totals.{AreLow, AreWeighted}

-- the arguments in front of these tokens, and the tokens
abbrev pub parts_with : LineArguments → List Arg → LineParts
parts_with it tail = record { first = it.first.now; middle = it.middle.now; second = it.second.now; tail = tail }

-- what is known of the arguments up to the second one of open length, and of the entries of the two
pub record IsOpened (p : PosedProblem) (line : OpenedLine) : Type 0 where
  pub weighted : AreWeighted p
      (line.arguments.first.now ∷ (line.arguments.middle.now ++ line.arguments.second.now ∷ []))
      (line.arguments.first_factor ∷ (line.arguments.middle_factors.now ++ line.arguments.second_factor ∷ []))
  pub middle_each : length line.arguments.middle_factors.now ≡ length line.arguments.middle.now
  pub middle_fixed : AllByRecursion IsFixed line.arguments.middle.now
  pub boundary : AreBoundaries p (parts_with line.arguments []) line.from line.boundary.last line.boundary.letters
      line.boundary.last line.boundary.positions.now
  pub limits : AreLimited line.boundary.positions.now line.boundary.limits.now
  pub low : AreLow p
      (line.arguments.first.now ∷ (line.arguments.middle.now ++ line.arguments.second.now ∷ []))
      (line.arguments.first_factor ∷ (line.arguments.middle_factors.now ++ line.arguments.second_factor ∷ []))
      line.from line.boundary.last
  pub common : line.column.first ≡ line.row.first + line.boundary.letters
  pub row : (position : ℕ) → Contains line.boundary.positions.now position
      → AtRule (HasEntryAt p (entries_of line.row) line.row.first position)
      (on_span line.arguments.first.now line.from position)
  pub column : (position : ℕ) → Contains line.boundary.positions.now position
      → AtRule (HasEntryAt p (entries_of line.column) line.column.first (position + line.boundary.letters))
      (on_span line.arguments.second.now (position + line.boundary.letters) line.boundary.last)
  pub row_proper : AreProperNumbers line.row.numbers
  pub column_proper : AreProperNumbers line.column.numbers

-- the line of these arguments, opened on the span from `from` to `to`
pub record IsOpenedOn (p : PosedProblem) (arguments : List Arg) (factors : List ℤ) (from to : ℕ) (line : OpenedLine)
    : Type 0 where
  pub opened : IsOpened p line
  pub arguments_are : arguments ≡ line.arguments.first.now
      ∷ (line.arguments.middle.now ++ line.arguments.second.now ∷ line.arguments.tail.now)
  pub factors_are : factors ≡ line.arguments.first_factor
      ∷ (line.arguments.middle_factors.now ++ line.arguments.second_factor ∷ line.arguments.tail_factors.now)
  pub tail_fixed : AllByRecursion IsFixed line.arguments.tail.now
  pub begins : line.from ≡ from
  pub boundary : AreBoundaries p (parts_with line.arguments line.arguments.tail.now) line.from to line.boundary.letters
      line.boundary.last line.boundary.positions.now
  pub some : 0 < length line.boundary.positions.now
