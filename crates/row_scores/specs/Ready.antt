-- Totals of the first arguments of an alternative, by where they end, from which the others are gone through.
use Rattle.std.specs.Prelude.{◌≡◌, ℕ, ◌+◌, ◌-◌, ◌<◌, ◌≤◌, ℤ, ◌+ℤ◌, ◌*ℤ◌, ◌<ℤ◌, nat_abs, Some, List, [], ◌∷◌, length, map, slice_get}
use Rattle.adp_model.specs.declared.grammar.Arg.{Arg}
use Rattle.adp_model.specs.declared.grammar.Arg.TheVariants.{Rule}
use Rattle.adp_model.specs.declared.cell.Answer.TheVariants.{NoCandidate}
use Rattle.adp_model.specs.Answers.{IsAnswer}
use Rattle.adp_model.specs.declared.cell.Cell.{Cell}
use Rattle.adp_model.specs.PosedProblem.{PosedProblem}
use Rattle.adp_model.specs.Bellman.{HasBestScore}
use Rattle.adp_model.specs.Bounds.{IsScoreBound}
use Rattle.adp_model.specs.Demand.{IsDemanded}
use Rattle.adp_model.specs.FirstSplit.{IsValue}
use Rattle.adp_model.specs.Lengths.{AllowsLength}
use Rattle.adp_model.specs.Parts.{alternative_at}
use Rattle.adp_model.specs.Splits.{FitsSpan}
use Rattle.adp_model.specs.Terms.{weighted_total}
use Rattle.viable_splits.specs.Placing.{Cover, on_span}
use Rattle.split_lines.specs.Laid.{Demands}
use Rattle.cell_answers.specs.Totals.{HaveValues, HasTotal, IsWithinBound}
use Rattle.score_numbers.specs.Packing.{Width}
use Rattle.score_rows.specs.Numbers.{StandsFor, least}
use Rattle.score_rows.specs.declared.totals.Window.{Window}
use Rattle.row_scores.specs.RowNumbers.{IsNumberOf}
use Rattle.row_scores.specs.Steps.{Rows}

-- totals by where they end
abbrev pub Totals : Type 1
Totals = ℕ → ℤ → Type 0

-- a total with one argument more
abbrev pub HasNext : PosedProblem → Totals → Arg → ℤ → Totals
HasNext p First argument factor end total =
    (position : ℕ) × (before : ℤ) × (value : ℤ) × First position before × FitsSpan p (on_span argument position end)
    × IsValue p (HasBestScore p) (on_span argument position end) value × (total ≡ ((factor *ℤ value) +ℤ before))

-- a total with all others
abbrev pub HasWhole : PosedProblem → Totals → List Arg → List ℤ → Totals
HasWhole p First arguments factors end whole =
    (position : ℕ) × (before : ℤ) × (total : ℤ) × First position before
    × HasTotal p (HasBestScore p) arguments factors position end total × (whole ≡ (before +ℤ total))

-- an alternative on the cells of a start, and the arguments that were gone through, the last one first, each with the
-- factor of its value
pub record Front : Type 0 where
  pub rule : ℕ
  pub alternative : ℕ
  pub from : ℕ
  pub constant : ℤ
  pub passed : List (Arg × ℤ)

-- what they come to, with the constant, by where they end
abbrev pub front_totals : PosedProblem → ℕ → ℤ → List (Arg × ℤ) → Totals
front_totals p from constant [] position total = (position ≡ from) × (total ≡ constant)
front_totals p from constant (last ∷ passed) position total =
    HasNext p (front_totals p from constant passed) last.0 last.1 position total

abbrev pub HasFront : PosedProblem → Front → Totals
HasFront p front = front_totals p front.from front.constant front.passed

-- the ends of the demanded cells of the start of which the alternative allows the length
pub record IsWantedEnd (p : PosedProblem) (rule alternative from end : ℕ) : Type 0 where
  pub demanded : IsDemanded p (record { rule = rule; from = from; to = end })
  pub allowed : AllowsLength (alternative_at p.grammar rule alternative) (end - from)

abbrev pub IsWanted : PosedProblem → Front → ℕ → Type 0
IsWanted p front end = IsWantedEnd p front.rule front.alternative front.from end

-- with one argument more gone through
abbrev pub passed_too : Front → Arg → ℤ → Front
passed_too front argument factor = record front { passed = (argument, factor) ∷ front.passed }

-- what is known of best scores and of the numbers in rows
pub record AreRows (p : PosedProblem) (width : Width) (InRow : Rows) : Type 0 where
  pub within : (cell : Cell) (score : ℤ) → HasBestScore p cell score → IsWithinBound p cell score
  pub one : (cell : Cell) (a b : ℤ) → HasBestScore p cell a → HasBestScore p cell b → a ≡ b
  pub apart : (cell : Cell) (score : ℤ) → HasBestScore p cell score → IsAnswer p cell NoCandidate → ⊥
  pub alone : (rule from to : ℕ) (a b : ℤ) → InRow rule from to a → InRow rule from to b → a ≡ b
  pub fit : (rule from to : ℕ) (number : ℤ) → InRow rule from to number → FitsSpan p (on_span (Rule rule) from to)
  pub dead : width.mark <ℤ least width

-- of the ends that are wanted: from where the others lead to one of them the numbers stand for the totals, the cells on
-- the way have their numbers, and no part of a whole total is greater than the limit
pub record AreReady (p : PosedProblem) (width : Width) (InRow : Rows) (First : Totals) (Wanted : ℕ → Type 0)
    (arguments : List Arg) (factors : List ℤ) (numbers : List ℤ) : Type 0 where
  pub each : length factors ≡ length arguments
  pub long : length numbers ≡ length p.word + 1
  pub within : (position : ℕ) (total : ℤ) → First position total → position ≤ length p.word
  pub stand : (position end : ℕ) (number : ℤ) → Wanted end → Cover p arguments position end
      → slice_get numbers position ≡ Some number → StandsFor width (First position) number
  pub scored : (position end : ℕ) (total : ℤ) (child : Cell) → First position total → Wanted end
      → Demands p arguments position end child
      → (number : ℤ) × InRow child.rule child.from child.to number × IsNumberOf width p child number
  pub low : (position end : ℕ) (total : ℤ) (values : List ℤ) → First position total → Wanted end
      → HaveValues p (IsWithinBound p) arguments position end values
      → nat_abs total + weighted_total factors (map nat_abs values) ≤ width.limit

-- all of them have a number for each position of the word
pub record AreLong (p : PosedProblem) (reached next row : List ℤ) : Type 0 where
  pub reached_long : length reached ≡ length p.word + 1
  pub next_long : length next ≡ length p.word + 1
  pub row_long : length row ≡ length p.word + 1

-- the positions of which it holds lie in the window
abbrev pub IsWithin : Window → (ℕ → Type 0) → Type 0
IsWithin window Holds = (position : ℕ) → Holds position → (window.first ≤ position) × (position < window.past)

-- no score of the word is greater than the limit
pub record IsLowProblem (p : PosedProblem) (width : Width) : Type 0 where
  pub bound : ℕ
  pub is_bound : IsScoreBound p.grammar p.algebra (length p.word) bound
  pub low : bound ≤ width.limit
