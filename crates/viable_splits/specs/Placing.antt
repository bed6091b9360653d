-- The cuts of a cell from one of an alternative's arguments on: a walk over viable splits moves one boundary at a time.
use Rattle.std.specs.Prelude.{◌≡◌, ℕ, ◌*◌, ◌-◌, ◌+◌, ◌<◌, ◌≤◌, ◌↔◌, List, [], ◌∷◌, length, take, drop, slice_index, slice_set}
use Rattle.std.specs.List.{AllByRecursion}
use Rattle.std.specs.declared.ops.Range.{Range}
use Rattle.adp_model.specs.declared.grammar.Arg.{Arg}
use Rattle.adp_model.specs.declared.cell.Cell.{Cell}
use Rattle.adp_model.specs.PosedProblem.{PosedProblem, IsSpan}
use Rattle.adp_model.specs.Parts.{alternatives_of, arguments_of, letters_of}
use Rattle.adp_model.specs.Tokens.{letters_between, IsIn}
use Rattle.adp_model.specs.Splits.{Placed, FitsSpan}
use Rattle.adp_model.specs.WellFormed.{IsKnown}
use Rattle.adp_model.specs.Walk.{rank_of, IsVisitedBefore}
use Rattle.viable_splits.specs.declared.cuts.Cuts.{Cuts}

-- an argument on a span
abbrev pub on_span : Arg → ℕ → ℕ → Placed
on_span argument from to = record { argument = argument; from = from; to = to }

-- the letters from `from` on are in the class up to this position and no further, as far as the last
pub record IsClassEnd (p : PosedProblem) (class from last end : ℕ) : Type 0 where
  pub after : from ≤ end
  pub within : end ≤ last
  pub exact : (to : ℕ) → from ≤ to → to ≤ last
      → AllByRecursion (IsIn (letters_of p.grammar class)) (letters_between p.word from to) ↔ (to ≤ end)

-- the range has the positions, up to the last, at which the argument may end
pub record AreEnds (p : PosedProblem) (argument : Arg) (from last : ℕ) (ends : Range ℕ) : Type 0 where
  pub exact : (to : ℕ) → to ≤ last → FitsSpan p (on_span argument from to) ↔ ((ends.start ≤ to) × (to < ends.end))
  pub behind : from ≤ ends.start
  pub up_to_last : ends.end ≤ last + 1

-- the arguments may have the letters from `from` to `to`, one argument behind the other
abbrev pub Cover : PosedProblem → List Arg → ℕ → ℕ → Type 0
Cover p [] from to = from ≡ to
Cover p (argument ∷ arguments) from to =
    (cut : ℕ) × FitsSpan p (on_span argument from cut) × Cover p arguments cut to

-- the arguments may have no letters from any position of the range on
abbrev pub CoverNone : PosedProblem → List Arg → ℕ → ℕ → Type 0
CoverNone p arguments start end = (from to : ℕ) → start ≤ from → from < end → Cover p arguments from to → ⊥

-- a position of the range, from no position before which they may have letters
pub record IsNextPosition (p : PosedProblem) (arguments : List Arg) (start end position : ℕ) : Type 0 where
  pub low : start ≤ position
  pub high : position < end
  pub none_before : CoverNone p arguments start position

-- where they may, and the letters are at most `most`, these are at least `least` and at most `greatest`
pub record AreLengths (p : PosedProblem) (arguments : List Arg) (most least greatest : ℕ) : Type 0 where
  pub bounds : (from to : ℕ) → to - from ≤ most → Cover p arguments from to
      → (least ≤ to - from) × (to - from ≤ greatest)
  pub least_kept : least ≤ length arguments * (most + 1)
  pub greatest_kept : greatest ≤ length arguments * most

-- the argument may end at each position of the range, and the range has each position where it may end and the others
-- may have the letters from there to the last
pub record ArePositions (p : PosedProblem) (argument : Arg) (later : List Arg) (from last : ℕ) (positions : Range ℕ)
    : Type 0 where
  pub fit : (to : ℕ) → positions.start ≤ to → to < positions.end → FitsSpan p (on_span argument from to)
  pub none_missed : (to : ℕ) → FitsSpan p (on_span argument from to) → Cover p later to last
      → (positions.start ≤ to) × (to < positions.end)
  pub behind : from ≤ positions.start
  pub up_to_last : positions.end ≤ last + 1

-- the arguments are those of the alternative from this number on
pub record AreRest (p : PosedProblem) (cell : Cell) (alternative number : ℕ) (arguments : List Arg) : Type 0 where
  pub in_range : alternative < length (alternatives_of p.grammar cell.rule)
  pub are : arguments ≡ drop number (arguments_of p.grammar cell.rule alternative)

-- a walk has these arguments of the alternative left, those from this number on, and for them the letters of the cell
-- from `from` on; no boundary is turned by more positions than the cell has letters
pub record AreLeft (p : PosedProblem) (cell : Cell) (alternative : ℕ) (arguments : List Arg) (from number : ℕ)
    (turns : List ℕ) : Type 0 where
  pub span : IsSpan p.word from cell.to
  pub after : cell.from ≤ from
  pub known : AllByRecursion (IsKnown p.grammar) arguments
  pub rest : AreRest p cell alternative number arguments
  pub few : length arguments + number ≤ 4
  pub boundary : number ≤ 3
  pub turned : AllByRecursion (λ turn. turn ≤ cell.to - cell.from) turns

-- these cuts divide the letters from `from` to `to` into spans that the arguments may have, in order; cuts that are
-- left over stand at `to`
abbrev pub Divide : PosedProblem → List Arg → ℕ → ℕ → List ℕ → Type 0
Divide p [] from to cuts = AllByRecursion (λ cut. cut ≡ to) cuts
Divide p (argument ∷ []) from to cuts = FitsSpan p (on_span argument from to) × AllByRecursion (λ cut. cut ≡ to) cuts
Divide p (argument ∷ next ∷ arguments) from to [] = FitsSpan p (on_span argument from to)
Divide p (argument ∷ next ∷ arguments) from to (cut ∷ cuts) =
    FitsSpan p (on_span argument from cut) × Divide p (next ∷ arguments) cut to cuts

-- the rank of a position that a boundary has
abbrev pub rank_at : Cell → List ℕ → ℕ → ℕ → ℕ
rank_at cell turns number position = rank_of cell (slice_index turns number) position

-- the cuts with one boundary moved
abbrev pub moved : Cuts → ℕ → ℕ → Cuts
moved cuts number position = record cuts { at = slice_set cuts.at number position }

-- the boundaries before this one stay, and those from it on divide what the arguments have of the cell, from `from` on
pub record Continues (p : PosedProblem) (cell : Cell) (arguments : List Arg) (from number : ℕ) (cuts found : Cuts)
    : Type 0 where
  pub turns : found.turns ≡ cuts.turns
  pub three : length found.at ≡ 3
  pub kept : take number found.at ≡ take number cuts.at
  pub divides : Divide p arguments from cell.to (drop number found.at)

-- no cuts divide it whose first boundary has so great a rank
abbrev pub HasNoneBehind : PosedProblem → Cell → List Arg → ℕ → ℕ → ℕ → List ℕ → Type 0
HasNoneBehind p cell arguments from number least_rank turns =
    (others : List ℕ) → length others + number ≡ 3 → Divide p arguments from cell.to others
    → least_rank ≤ rank_at cell turns number (slice_index others 0) → ⊥

-- of those cuts the ones that are visited first
pub record IsFirstBehind (p : PosedProblem) (cell : Cell) (arguments : List Arg) (from number least_rank : ℕ)
    (cuts found : Cuts) : Type 0 where
  pub continues : Continues p cell arguments from number cuts found
  pub behind : least_rank ≤ rank_at cell cuts.turns number (slice_index found.at number)
  pub first : (others : List ℕ) → length others + number ≡ 3 → Divide p arguments from cell.to others
      → least_rank ≤ rank_at cell cuts.turns number (slice_index others 0)
      → IsVisitedBefore cell (drop number cuts.turns) others (drop number found.at) → ⊥

-- the first position of the range from which cuts divide the rest, and of these cuts the ones that are visited first
pub record IsFirstWithin (p : PosedProblem) (cell : Cell) (arguments : List Arg) (start end number : ℕ)
    (cuts found : Cuts) : Type 0 where
  pub position : ℕ
  pub low : start ≤ position
  pub high : position < end
  pub there : IsFirstBehind p cell arguments position (number + 1) 0 (moved cuts number position) found
  pub none_before : (other : ℕ) → start ≤ other → other < position
      → HasNoneBehind p cell arguments other (number + 1) 0 cuts.turns

-- from no position of the range cuts divide the rest
abbrev pub HasNoneWithin : PosedProblem → Cell → List Arg → ℕ → ℕ → ℕ → List ℕ → Type 0
HasNoneWithin p cell arguments start end number turns =
    (position : ℕ) → start ≤ position → position < end → HasNoneBehind p cell arguments position (number + 1) 0 turns

-- the cuts that are visited next behind these
pub record IsNextFrom (p : PosedProblem) (cell : Cell) (arguments : List Arg) (from number : ℕ) (cuts found : Cuts)
    : Type 0 where
  pub continues : Continues p cell arguments from number cuts found
  pub behind : IsVisitedBefore cell (drop number cuts.turns) (drop number cuts.at) (drop number found.at)
  pub next : (others : List ℕ) → length others + number ≡ 3 → Divide p arguments from cell.to others
      → IsVisitedBefore cell (drop number cuts.turns) (drop number cuts.at) others
      → IsVisitedBefore cell (drop number cuts.turns) others (drop number found.at) → ⊥

-- no cuts are visited behind these
abbrev pub IsLastFrom : PosedProblem → Cell → List Arg → ℕ → ℕ → Cuts → Type 0
IsLastFrom p cell arguments from number cuts =
    (others : List ℕ) → length others + number ≡ 3 → Divide p arguments from cell.to others
    → IsVisitedBefore cell (drop number cuts.turns) (drop number cuts.at) others → ⊥
