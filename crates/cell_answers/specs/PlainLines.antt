-- Lines of two rules whose tokens make no difference to a term, and what it comes to at the numbers on both sides of the
-- boundary.
use Rattle.std.specs.Prelude.{◌≡◌, ℕ, ◌+◌, ◌^◌, ◌<◌, ◌≤◌, ℤ, Option, List, [], ◌∷◌}
use Rattle.adp_model.specs.declared.grammar.Arg.{Arg}
use Rattle.adp_model.specs.declared.grammar.Arg.TheVariants.{Rule, Literal, Letter}
use Rattle.adp_model.specs.WideForm.{WideForm, Number, Value, Sum, Difference, Product, Greater, Lesser}
use Rattle.adp_model.specs.WideTerms.{form_of}
use Rattle.score_numbers.specs.declared.sums.Positions.{Positions}
use Rattle.score_numbers.specs.declared.term_lines.TermLine.{TermLine}
use Rattle.score_numbers.specs.Greatest.{IsGreatestOf}
use Rattle.score_numbers.specs.Packing.{Width, AreProper, told_list}
use Rattle.score_numbers.specs.Spaced.{IsSpaced}
use Rattle.score_numbers.specs.Sums.{HaveNumbers}
use Rattle.score_numbers.specs.TermLines.{AreLowValues, HasTermValueAt}
use Rattle.cell_answers.specs.declared.opened.OpenedLine.{OpenedLine}
use Rattle.cell_answers.specs.ArgumentEntries.{entries_of}

-- the term does not have the value of the argument at this place
abbrev pub IsFreeOf : WideForm → ℕ → Type 0
IsFreeOf (Number number) place = Unit {0}
IsFreeOf (Value other) place = other ≡ place → ⊥
IsFreeOf (Sum left right) place = IsFreeOf left place × IsFreeOf right place
IsFreeOf (Difference left right) place = IsFreeOf left place × IsFreeOf right place
IsFreeOf (Product left right) place = IsFreeOf left place × IsFreeOf right place
IsFreeOf (Greater left right) place = IsFreeOf left place × IsFreeOf right place
IsFreeOf (Lesser left right) place = IsFreeOf left place × IsFreeOf right place

-- the tokens make no difference to the term: they are literals, which are worth nothing, and letters whose values it does
-- not have; the value of the first one stands at this place
abbrev pub AreIdle : WideForm → ℕ → List Arg → Type 0
AreIdle form place [] = Unit {0}
AreIdle form place (Literal text ∷ tokens) = AreIdle form (place + 1) tokens
AreIdle form place (Letter class ∷ tokens) = IsFreeOf form place × AreIdle form (place + 1) tokens
AreIdle form place (token ∷ tokens) = ⊥

-- the argument is a rule
abbrev pub IsRule : Arg → Type 0
IsRule argument = (rule : ℕ) × (argument ≡ Rule rule)

-- both arguments of open length are rules, no token makes a difference to the term, and the entries were turned for its
-- goal
pub record IsPlain (line : OpenedLine) (term : TermLine) : Type 0 where
  pub first : IsRule line.arguments.first.now
  pub second : IsRule line.arguments.second.now
  pub middle : AreIdle (form_of term.term.now) (term.before + 1) line.arguments.middle.now
  pub tail : AreIdle (form_of term.term.now) (term.behind + 1) line.arguments.tail.now
  pub row : line.row.goal ≡ term.goal
  pub column : line.column.goal ≡ term.goal

-- the positions of the boundary, as the entries on both sides of it stand
abbrev pub positions_of : OpenedLine → Positions
positions_of line = record { at = line.boundary.positions; first = line.row.first }

-- the entries on both sides of the boundary are kept as these numbers of the width
pub record AreNumbersOn (width : Width) (line : OpenedLine) (firsts seconds : List ℤ) : Type 0 where
  pub spaced : IsSpaced width
  pub small : width.limit < 2 ^ 63
  pub firsts_proper : AreProper width firsts
  pub seconds_proper : AreProper width seconds
  pub firsts_told : entries_of line.row ≡ told_list width line.row.goal firsts
  pub seconds_told : entries_of line.column ≡ told_list width line.column.goal seconds

-- whatever the width, there are numbers for all positions, and where the bound is within its limit nothing in the term
-- can become greater
abbrev pub AreFitNumbers : OpenedLine → TermLine → ℕ → Type 0
AreFitNumbers line term bound =
    (width : Width) (firsts seconds : List ℤ) → AreNumbersOn width line firsts seconds
    → HaveNumbers (positions_of line) firsts seconds
    × (bound ≤ width.limit → AreLowValues width term (positions_of line) firsts seconds)

-- the bound is within the limit of the numbers' width, and this is the greatest that the term comes to at them
pub record IsFoundOn (line : OpenedLine) (term : TermLine) (bound : ℕ) (greatest : Option ℤ) : Type 0 where
  pub width : Width
  pub firsts : List ℤ
  pub seconds : List ℤ
  pub are : AreNumbersOn width line firsts seconds
  pub within : bound ≤ width.limit
  pub is_greatest : IsGreatestOf (HasTermValueAt width term (positions_of line) firsts seconds) greatest
