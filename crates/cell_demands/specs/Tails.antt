-- The tails of alternatives: their last arguments, laid from one position of the word up to another.
use Rattle.std.specs.Prelude.{◌≡◌, ℕ, Bool, true, false, Option, IfSome, List, ◌++◌, length}
use Rattle.adp_model.specs.declared.cell.Cell.{Cell}
use Rattle.adp_model.specs.declared.grammar.Arg.{Arg}
use Rattle.adp_model.specs.PosedProblem.{PosedProblem}
use Rattle.adp_model.specs.Parts.{arguments_of}
use Rattle.viable_splits.specs.Placing.{Cover}
use Rattle.split_lines.specs.Laid.{Demands}
use Rattle.cell_tables.specs.Marks.{CellMarks, IsMarked}
use Rattle.cell_demands.specs.declared.tails.Owner.{Owner}
use Rattle.cell_demands.specs.declared.tails.Tail.{Tail}

-- the tail is these arguments
pub record IsTail (p : PosedProblem) (tail : Tail) (arguments : List Arg) : Type 0 where
  pub before : List Arg
  pub arguments_are : arguments_of p.grammar tail.rule tail.alt ≡ before ++ arguments
  pub count : length arguments ≡ tail.count

-- the last so many arguments of the alternative
abbrev pub tail_with : Owner → ℕ → Tail
tail_with owner count = record { rule = owner.rule; alt = owner.alt; count = count }

-- if an owner is told, it is an alternative whose last arguments these are
abbrev pub IsOwner : PosedProblem → Option Owner → List Arg → Type 0
IsOwner p owner arguments = IfSome owner (λ it. IsTail p (tail_with it (length arguments)) arguments)

-- the arguments may have the letters between the two positions, and the cells that they demand there are marked
pub record AreMarkedOn (p : PosedProblem) (marks : CellMarks) (arguments : List Arg) (from to : ℕ) : Type 0 where
  pub laid : Cover p arguments from to
  pub marked : (cell : Cell) → Demands p arguments from to cell → IsMarked marks cell

-- the note, whether the tail is laid between the two positions and its cells are marked, is true
abbrev pub IsTrueNote : PosedProblem → CellMarks → Tail → ℕ → ℕ → Bool → Type 0
IsTrueNote p marks tail from to false =
    (arguments : List Arg) → IsTail p tail arguments → Cover p arguments from to → ⊥
IsTrueNote p marks tail from to true =
    (arguments : List Arg) → IsTail p tail arguments → AreMarkedOn p marks arguments from to
