-- Rules as rows ask for them, and rows of a start that are under way.
use Rattle.std.specs.Prelude.{◌≡◌, ℕ, ◌+◌, ◌<◌, ℤ, Some, List, length, map, slice_get, take}
use Rattle.adp_model.specs.declared.cell.Cell.{Cell}
use Rattle.adp_model.specs.PosedProblem.{PosedProblem}
use Rattle.adp_model.specs.Demand.{IsDemanded}
use Rattle.adp_model.specs.Parts.{alternative_at, alternatives_of, arguments_of}
use Rattle.split_lines.specs.Kept.{HasLengths, IsScoredBy}
use Rattle.cell_answers.specs.Totals.{HasTurnedScore}
use Rattle.score_numbers.specs.Packing.{Width}
use Rattle.score_rows.specs.Numbers.{AreDead, StandsFor}
use Rattle.row_scores.specs.declared.rules.RowAlternative.{RowAlternative}
use Rattle.row_scores.specs.declared.rules.RowRule.{RowRule}
use Rattle.row_scores.specs.declared.through.Room.{Room}
use Rattle.row_scores.specs.Order.{AreInRowOrder}

-- the arguments are those of the alternative, the sum scores it, and the lengths are those that it allows
pub record IsRowAlternative (p : PosedProblem) (rule alternative : ℕ) (it : RowAlternative) : Type 0 where
  pub in_range : alternative < length (alternatives_of p.grammar rule)
  pub arguments : it.arguments.now ≡ arguments_of p.grammar rule alternative
  pub scored : IsScoredBy p rule alternative it.sum.constant (take (length it.arguments.now) it.sum.factors)
  pub lengths : HasLengths (alternative_at p.grammar rule alternative) it.lengths

-- they are the first alternatives of the rule, so many
pub record AreRowAlternatives (p : PosedProblem) (rule count : ℕ) (alternatives : List RowAlternative) : Type 0 where
  pub each : length alternatives ≡ count
  pub are : (alternative : ℕ) (it : RowAlternative) → slice_get alternatives alternative ≡ Some it
      → IsRowAlternative p rule alternative it

-- the alternatives are all those of the rule
pub record IsRowRule (p : PosedProblem) (it : RowRule) : Type 0 where
  pub known : it.rule < length p.grammar.rules
  pub alternatives : AreRowAlternatives p it.rule (length (alternatives_of p.grammar it.rule)) it.alternatives.items

-- the numbers of the rules
abbrev pub numbers_of : List RowRule → List ℕ
numbers_of rules = map (λ it. it.rule) rules

-- the rules are all, in the order of their rows
pub record AreRowRules (p : PosedProblem) (rules : List RowRule) : Type 0 where
  pub are : (number : ℕ) (it : RowRule) → slice_get rules number ≡ Some it → IsRowRule p it
  pub in_order : AreInRowOrder p (numbers_of rules)

-- one of the first so many alternatives gives the cell this score, turned
abbrev pub GivesBefore : PosedProblem → Cell → ℕ → ℤ → Type 0
GivesBefore p cell count number = (alternative : ℕ) × (alternative < count) × HasTurnedScore p cell alternative number

-- the numbers of the demanded cells of a rule and a start stand for what the first so many alternatives give them
pub record IsRowOf (p : PosedProblem) (width : Width) (rule from count : ℕ) (numbers : List ℤ) : Type 0 where
  pub long : length numbers ≡ length p.word + 1
  pub stand : (to : ℕ) (number : ℤ) → IsDemanded p (record { rule = rule; from = from; to = to })
      → slice_get numbers to ≡ Some number
      → StandsFor width (GivesBefore p (record { rule = rule; from = from; to = to }) count) number

-- there is a number for each position of the word, and none that is lent stands for a score
pub record IsRoom {N : Type 0} (p : PosedProblem) (width : Width) (room : Room N) : Type 0 where
  pub reached_long : length room.reached ≡ length p.word + 1
  pub next_long : length room.next ≡ length p.word + 1
  pub row_long : length room.row ≡ length p.word + 1
  pub reached_clear : AreDead width room.reached
  pub next_clear : AreDead width room.next

-- and none of the row does
pub record IsClearRoom {N : Type 0} (p : PosedProblem) (width : Width) (room : Room N) : Type 0 where
  pub is_room : IsRoom p width room
  pub row_clear : AreDead width room.row
