-- The line of arguments.
use Rattle.std.specs.Prelude.{ℕ, ◌+◌, ◌<◌, List, length, take, drop, slice_index_or}
use Rattle.std.specs.List.{AllByRecursion}
use Rattle.adp_model.specs.declared.grammar.Arg.{Arg}
use Rattle.adp_model.specs.declared.grammar.Arg.TheVariants.{Rule}
use Rattle.adp_model.specs.PosedProblem.{PosedProblem}
use Rattle.adp_model.specs.Splits.{FitsSpan}
use Rattle.viable_splits.specs.Placing.{on_span, Cover}
use Rattle.split_lines.specs.declared.lines.Line.{Line}
use Rattle.split_lines.specs.Extents.{IsExtent}
use Rattle.split_lines.specs.Laid.{IsFixed, LineParts, HasParts}
use Rattle.split_lines.specs.Matching.{HaveLetters, AreMatches}

-- the parts of arguments that begin with the first one of a line, where so many tokens stand before the second one
abbrev pub parts_by : List Arg → ℕ → LineParts
parts_by arguments between = record {
  first = slice_index_or arguments 0 (Rule 0);
  middle = take between (drop 1 arguments);
  second = slice_index_or arguments (between + 1) (Rule 0);
  tail = drop (between + 2) arguments;
}

-- the last argument of open length has this number
pub record IsLastOpen (arguments : List Arg) (number : ℕ) : Type 0 where
  pub within : number < length arguments
  pub open_there : (d : Arg) → IsFixed (slice_index_or arguments number d) → ⊥
  pub fixed_behind : AllByRecursion IsFixed (drop (number + 1) arguments)

-- the arguments begin with the first one of a line, and so many tokens stand before the second one
pub record HasLine (arguments : List Arg) (between : ℕ) : Type 0 where
  pub several : between + 1 < length arguments
  pub parts : HasParts arguments (parts_by arguments between)
  pub first_open : IsFixed (parts_by arguments between).first → ⊥
  pub second_open : IsFixed (parts_by arguments between).second → ⊥

-- the line of arguments that begin with its first one
pub record IsLine (p : PosedProblem) (arguments : List Arg) (line : Line) : Type 0 where
  pub has_line : HasLine arguments line.between
  pub middle : AreMatches p (parts_by arguments line.between).middle line.middle.now
  pub tail : HaveLetters p (parts_by arguments line.between).tail line.tail
  pub before : IsExtent p (parts_by arguments line.between).first line.before
  pub behind : IsExtent p (parts_by arguments line.between).second line.behind

-- the arguments before and behind the boundary may have their letters where it stands at this position, and so may the
-- tokens behind them
pub record LeavesPosition (p : PosedProblem) (parts : LineParts) (from to letters last position : ℕ) : Type 0 where
  pub first : FitsSpan p (on_span parts.first from position)
  pub second : FitsSpan p (on_span parts.second (position + letters) last)
  pub tail : Cover p parts.tail last to
