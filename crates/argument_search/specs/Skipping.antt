-- What a visit passes over along a line of splits whose cells are noted.
use Rattle.std.specs.Prelude.{◌≡◌, ◌⊎◌, ℕ, ◌+◌, ◌<◌, ◌≤◌, Bool, true, false, IsTrue, List}
use Rattle.std.specs.Bool.{OnTrue}
use Rattle.std.specs.List.{Contains}
use Rattle.adp_model.specs.declared.cell.Cell.{Cell}
use Rattle.adp_model.specs.PosedProblem.{PosedProblem}
use Rattle.memo_model.specs.declared.visit.Position.{Position}
use Rattle.memo_model.specs.declared.visit.Visit.{Visit}
use Rattle.adp_model.specs.SplitArguments.{SplitArgument, AsksFor, IsSplitArgument}
use Rattle.memo_model.specs.Visits.{argument_at, is_before}
use Rattle.adp_model.specs.Walk.{rank_of}
use Rattle.adp_model.specs.declared.grammar.Arg.{Arg}
use Rattle.viable_splits.specs.Placing.{Cover}
use Rattle.split_lines.specs.Flags.{AreBitsAmong}
use Rattle.split_lines.specs.Laid.{IsCellOf, Demands, AreBoundaries}
use Rattle.split_lines.specs.Lines.{parts_by}
use Rattle.argument_search.specs.declared.skipping.Ahead.{Ahead}
use Rattle.argument_search.specs.declared.skipping.OpenPair.{OpenPair}

-- from the first position on to the second, which is the same or visited later, all cells that are asked for are noted
pub record IsSkipped (p : PosedProblem) (Noted : Cell → Type 0) (visit : Visit) (at to : Position) : Type 0 where
  pub is_argument : IsSplitArgument p (argument_at visit.cell to)
  pub on : (to ≡ at) ⊎ (is_before p visit (argument_at visit.cell at) (argument_at visit.cell to) ≡ true)
  pub passed : (argument : SplitArgument) (child : Cell) → argument.cell ≡ visit.cell → AsksFor p argument child
      → is_before p visit (argument_at visit.cell at) argument ≡ true
      → is_before p visit (argument_at visit.cell to) argument ≡ false → Noted child

-- behind the first position the argument at the second one is the next, but for some whose cells are noted
pub record IsReached (p : PosedProblem) (Noted : Cell → Type 0) (visit : Visit) (at to : Position) : Type 0 where
  pub is_argument : IsSplitArgument p (argument_at visit.cell to)
  pub on : is_before p visit (argument_at visit.cell at) (argument_at visit.cell to) ≡ true
  pub next : (argument : SplitArgument) (child : Cell) → argument.cell ≡ visit.cell → AsksFor p argument child
      → is_before p visit (argument_at visit.cell at) argument ≡ true
      → Noted child ⊎ ((argument ≡ argument_at visit.cell to)
      ⊎ (is_before p visit (argument_at visit.cell to) argument ≡ true))

-- the cells of the first arguments of a split, so many of them, are noted
abbrev pub AreNotedBefore : PosedProblem → (Cell → Type 0) → Cell → Position → ℕ → Type 0
AreNotedBefore p Noted cell at count =
    (number : ℕ) (child : Cell) → number < count
    → AsksFor p (record { cell = cell; alternative = at.alternative; cuts = at.cuts; number = number }) child
    → Noted child

-- the two arguments of the line of these arguments between two positions, and the positions of its boundary
pub record IsPairOf (p : PosedProblem) (arguments : List Arg) (between from to : ℕ) (pair : OpenPair) : Type 0 where
  pub begins : pair.from ≡ from
  pub first : pair.first.now ≡ (parts_by arguments between).first
  pub second : pair.second.now ≡ (parts_by arguments between).second
  pub boundaries : AreBoundaries p (parts_by arguments between) pair.from to pair.letters pair.last pair.positions.now
  pub here : AreBitsAmong pair.positions.now 0 pair.here.now
  pub behind : AreBitsAmong pair.positions.now pair.letters pair.behind.now

-- with the boundary here, the cells of both arguments of a line are noted
pub record IsNotedAt (Noted : Cell → Type 0) (pair : OpenPair) (position : ℕ) : Type 0 where
  pub first : (child : Cell) → IsCellOf pair.first.now pair.from position child → Noted child
  pub second : (child : Cell) → IsCellOf pair.second.now (position + pair.letters) pair.last child → Noted child

-- at the boundary's positions from `begin` on and before `past`, the cells of both arguments of a line are noted
abbrev pub AreNotedBetween : (Cell → Type 0) → OpenPair → ℕ → ℕ → Type 0
AreNotedBetween Noted pair begin past =
    (position : ℕ) → Contains pair.positions.now position → begin ≤ position → position < past
    → IsNotedAt Noted pair position

-- one of the positions lies right before the end, or behind that
abbrev pub EndsByAPosition : List ℕ → ℕ → Type 0
EndsByAPosition positions past = (last : ℕ) × Contains positions last × (past ≤ last + 1)

-- the position is the first of these from `begin` on, and before `past`
pub record IsFirstBetween (positions : List ℕ) (begin past position : ℕ) : Type 0 where
  pub stands : Contains positions position
  pub low : begin ≤ position
  pub high : position < past
  pub first : (other : ℕ) → Contains positions other → begin ≤ other → position ≤ other

-- the position is one of the boundary's from `begin` on and before `past`; the cells of both arguments of a line are
-- noted before it, from `begin` on, and up to `past` where the position's own are
pub record IsLeftBetween (Noted : Cell → Type 0) (pair : OpenPair) (begin past : ℕ) (ahead : Ahead) : Type 0 where
  pub stands : Contains pair.positions.now ahead.position
  pub low : begin ≤ ahead.position
  pub high : ahead.position < past
  pub noted : AreNotedBetween Noted pair begin ahead.position
  pub whole : OnTrue ahead.is_noted (AreNotedBetween Noted pair begin past)

-- the position is one of the boundary's, this one or one behind it, and from this one on, before it, the cells of both
-- arguments are noted
pub record IsNotedUpTo (Noted : Cell → Type 0) (cell : Cell) (turn : ℕ) (pair : OpenPair) (from to : ℕ) : Type 0 where
  pub stands : Contains pair.positions.now to
  pub behind : rank_of cell turn from ≤ rank_of cell turn to
  pub noted : (position : ℕ) → Contains pair.positions.now position
      → rank_of cell turn from ≤ rank_of cell turn position → rank_of cell turn position < rank_of cell turn to
      → IsNotedAt Noted pair position

-- each cell that the arguments may demand between two positions is noted
abbrev pub AreNotedOn : PosedProblem → (Cell → Type 0) → List Arg → ℕ → ℕ → Type 0
AreNotedOn p Noted arguments from to = (child : Cell) → Demands p arguments from to child → Noted child

-- where the arguments may have the letters between two positions, this is so, and each cell that they may demand is
-- noted
abbrev pub AreNotedIfLaid : PosedProblem → (Cell → Type 0) → List Arg → Bool → ℕ → ℕ → Type 0
AreNotedIfLaid p Noted arguments so from to =
    Cover p arguments from to → IsTrue so × AreNotedOn p Noted arguments from to
