-- The arguments of an alternative, laid one behind the other from one position of the word to another, and the cells
-- that they demand there.
use Rattle.std.specs.Prelude.{◌≡◌, ◌↔◌, ℕ, ◌+◌, ◌-◌, ◌<◌, ◌⊎◌, List, [], ◌∷◌, ◌++◌, length}
use Rattle.std.specs.List.{AllAdjacentBelow, AllByRecursion, Contains}
use Rattle.adp_model.specs.declared.grammar.Arg.{Arg}
use Rattle.adp_model.specs.declared.grammar.Arg.TheVariants.{Rule, Literal, Letter, Run}
use Rattle.adp_model.specs.declared.cell.Cell.{Cell}
use Rattle.adp_model.specs.PosedProblem.{PosedProblem}
use Rattle.adp_model.specs.Lengths.{AllowsLength}
use Rattle.adp_model.specs.Parts.{alternative_at, arguments_of}
use Rattle.adp_model.specs.Splits.{FitsSpan}
use Rattle.viable_splits.specs.Placing.{on_span, Cover}

-- the argument is a rule, and on this span it is this cell
pub record IsCellOf (argument : Arg) (from to : ℕ) (cell : Cell) : Type 0 where
  pub rule : argument ≡ Rule cell.rule
  pub begins : from ≡ cell.from
  pub ends : to ≡ cell.to

-- the arguments may have the letters from `from` to `to` so that the cell is that of one of them
abbrev pub Demands : PosedProblem → List Arg → ℕ → ℕ → Cell → Type 0
Demands p [] from to cell = ⊥
Demands p (argument ∷ arguments) from to cell =
    (end : ℕ) × FitsSpan p (on_span argument from end)
    × ((IsCellOf argument from end cell × Cover p arguments end to) ⊎ Demands p arguments end to cell)

-- the alternative may be used on the cell, and its arguments demand the child there
abbrev pub DemandsBy : PosedProblem → Cell → ℕ → Cell → Type 0
DemandsBy p cell alternative child =
    AllowsLength (alternative_at p.grammar cell.rule alternative) (cell.to - cell.from)
    × Demands p (arguments_of p.grammar cell.rule alternative) cell.from cell.to child

-- a token of fixed length
abbrev pub IsFixed : Arg → Type 0
IsFixed (Rule rule) = ⊥
IsFixed (Literal text) = Unit {0}
IsFixed (Letter class) = Unit {0}
IsFixed (Run class low high) = ⊥

-- the parts of arguments along a line: one of open length, tokens of fixed length, one more of open length, and tokens
-- of fixed length
pub record LineParts : Type 0 where
  pub first : Arg
  pub middle : List Arg
  pub second : Arg
  pub tail : List Arg

-- the arguments have these parts
pub record HasParts (arguments : List Arg) (parts : LineParts) : Type 0 where
  pub are : arguments ≡ parts.first ∷ parts.middle ++ parts.second ∷ parts.tail
  pub middle_fixed : AllByRecursion IsFixed parts.middle
  pub tail_fixed : AllByRecursion IsFixed parts.tail

-- the positions of the boundary behind the first argument, in order: the second one then begins so many letters behind
-- the boundary, and ends at `last`
pub record AreBoundaries (p : PosedProblem) (parts : LineParts) (from to letters last : ℕ) (positions : List ℕ)
    : Type 0 where
  pub exact : (position : ℕ) → Contains positions position
      ↔ (FitsSpan p (on_span parts.first from position) × Cover p parts.middle position (position + letters)
      × FitsSpan p (on_span parts.second (position + letters) last) × Cover p parts.tail last to)
  -- tokens of fixed length leave no choice
  pub one_middle : (position end : ℕ) → Cover p parts.middle position end → end ≡ position + letters
  pub one_tail : (position : ℕ) → Cover p parts.tail position to → position ≡ last
  pub rising : AllAdjacentBelow (λ (a b : ℕ). a < b) positions (length positions)
