-- The next argument whose cell isn't noted, in the order of a walk.
use Rattle.std.specs.Prelude.{◌≡◌, ◌⊎◌, ℕ, ◌<◌, ◌≤◌, true, false, Some, List, [], ◌∷◌, length}
use Rattle.adp_model.specs.declared.cell.Cell.{Cell}
use Rattle.adp_model.specs.declared.grammar.Arg.{Arg}
use Rattle.adp_model.specs.PosedProblem.{PosedProblem}
use Rattle.adp_model.specs.Parts.{alternatives_of, arguments_of}
use Rattle.memo_model.specs.declared.visit.Position.{Position}
use Rattle.memo_model.specs.declared.visit.Visit.{Visit}
use Rattle.adp_model.specs.SplitArguments.{SplitArgument, AsksFor, IsSplitArgument}
use Rattle.memo_model.specs.Visits.{argument_at, turned_number, is_before, is_behind}
use Rattle.adp_model.specs.Walk.{IsVisitedBefore, IsFirstVisited}
use Rattle.split_lines.specs.declared.kept.KeptAlternative.{KeptAlternative}

-- the walk, at another position
abbrev pub moved_to : Visit → Position → Visit
moved_to visit position = record { cell = visit.cell; first = visit.first; turns = visit.turns; at = Some position }

-- how many alternatives the walk visits before this one
abbrev pub turned_of : PosedProblem → Visit → ℕ → ℕ
turned_of p visit alternative =
    turned_number (length (alternatives_of p.grammar visit.cell.rule)) visit.first alternative

-- each cell that the alternative's splits ask for is noted
abbrev pub AreAllNoted : PosedProblem → (Cell → Type 0) → Cell → ℕ → Type 0
AreAllNoted p Noted cell alternative =
    (cuts : List ℕ) (number : ℕ) (child : Cell)
    → AsksFor p (record { cell = cell; alternative = alternative; cuts = cuts; number = number }) child
    → Noted child

-- each one that they ask for behind these cuts is
abbrev pub AreNotedBehind : PosedProblem → (Cell → Type 0) → Cell → ℕ → List ℕ → List ℕ → Type 0
AreNotedBehind p Noted cell alternative turns before =
    (cuts : List ℕ) (number : ℕ) (child : Cell) → IsVisitedBefore cell turns before cuts
    → AsksFor p (record { cell = cell; alternative = alternative; cuts = cuts; number = number }) child
    → Noted child

-- the alternative is a token of fixed length, in front, and one more argument
pub record IsTokenAndArgument (kept : KeptAlternative) : Type 0 where
  pub token : Arg
  pub argument : Arg
  pub front : kept.front.now ≡ token ∷ []
  pub others : kept.others.now ≡ argument ∷ []

-- the position is in the split of the alternative that is visited first, and no argument before it asks for a cell
pub record IsEntry (p : PosedProblem) (cell : Cell) (alternative : ℕ) (turns : List ℕ) (position : Position) : Type 0
  where
    pub here : position.alternative ≡ alternative
    pub first : IsFirstVisited p cell alternative turns position.cuts
    pub within : position.number < length (arguments_of p.grammar cell.rule alternative)
    pub tokens : (number : ℕ) (child : Cell) → number < position.number
        → AsksFor p (record { cell = cell; alternative = alternative; cuts = position.cuts; number = number }) child → ⊥

-- behind the walk's position the argument there is the next one, but for some whose cells are noted
pub record IsNextLeft (p : PosedProblem) (Noted : Cell → Type 0) (visit : Visit) (position : Position) : Type 0 where
  pub is_argument : IsSplitArgument p (argument_at visit.cell position)
  pub behind : is_behind p visit (argument_at visit.cell position) ≡ true
  pub next : (argument : SplitArgument) (child : Cell) → argument.cell ≡ visit.cell → AsksFor p argument child
      → is_behind p visit argument ≡ true
      → Noted child ⊎ ((argument ≡ argument_at visit.cell position)
      ⊎ (is_before p visit (argument_at visit.cell position) argument ≡ true))

-- behind the walk's position the argument there is the first one whose cell isn't noted
pub record IsNextSought (p : PosedProblem) (Noted : Cell → Type 0) (visit : Visit) (position : Position) (child : Cell)
    : Type 0 where
  pub asks : AsksFor p (argument_at visit.cell position) child
  pub behind : is_behind p visit (argument_at visit.cell position) ≡ true
  pub before : (argument : SplitArgument) (other : Cell) → argument.cell ≡ visit.cell → AsksFor p argument other
      → is_behind p visit argument ≡ true → is_before p visit argument (argument_at visit.cell position) ≡ true
      → Noted other
  pub passed : (argument : SplitArgument) (other : Cell) → argument.cell ≡ visit.cell → AsksFor p argument other
      → is_behind p visit argument ≡ true → is_behind p (moved_to visit position) argument ≡ false
      → Noted other ⊎ (other ≡ child)

-- there is none
abbrev pub IsNoneSought : PosedProblem → (Cell → Type 0) → Visit → Type 0
IsNoneSought p Noted visit =
    (argument : SplitArgument) (other : Cell) → argument.cell ≡ visit.cell → AsksFor p argument other
    → is_behind p visit argument ≡ true → Noted other

-- the argument is the first one of the alternatives that are visited from this turned number on, but for some whose
-- cells are noted
pub record IsFirstLeft (p : PosedProblem) (Noted : Cell → Type 0) (visit : Visit) (from : ℕ) (position : Position)
    : Type 0 where
  pub is_argument : IsSplitArgument p (argument_at visit.cell position)
  pub behind : from ≤ turned_of p visit position.alternative
  pub first : (argument : SplitArgument) (child : Cell) → argument.cell ≡ visit.cell → AsksFor p argument child
      → from ≤ turned_of p visit argument.alternative
      → Noted child ⊎ ((argument ≡ argument_at visit.cell position)
      ⊎ (is_before p visit (argument_at visit.cell position) argument ≡ true))

-- each cell that they ask for is noted
abbrev pub IsNoneLeft : PosedProblem → (Cell → Type 0) → Visit → ℕ → Type 0
IsNoneLeft p Noted visit from =
    (argument : SplitArgument) (child : Cell) → argument.cell ≡ visit.cell → AsksFor p argument child
    → from ≤ turned_of p visit argument.alternative → Noted child
