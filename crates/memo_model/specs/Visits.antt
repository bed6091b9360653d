-- The order in which a machine visits the arguments of a cell's splits.
use Rattle.std.specs.Prelude.{◌≡◌, ℕ, ◌+◌, ◌-◌, ◌%◌, ◌<◌, ◌≤◌, Bool, true, false, nat_lt, nat_eq, if◌then◌else◌, Option, Some, None, List, [], ◌∷◌, ◌++◌, length}
use Rattle.std.specs.List.{AllByRecursion}
use Rattle.adp_model.specs.declared.cell.Cell.{Cell}
use Rattle.memo_model.specs.declared.visit.Position.{Position}
use Rattle.memo_model.specs.declared.visit.Visit.{Visit}
use Rattle.adp_model.specs.PosedProblem.{PosedProblem}
use Rattle.adp_model.specs.Parts.{alternatives_of}
use Rattle.adp_model.specs.Walk.{ranks_of}
use Rattle.adp_model.specs.SplitArguments.{SplitArgument, IsSplitArgument}

-- the argument at a position among a cell's
abbrev pub argument_at : Cell → Position → SplitArgument
argument_at cell position =
    record { cell = cell; alternative = position.alternative; cuts = position.cuts; number = position.number }

-- how many of so many alternatives are visited before this one where the visit begins with `first` and goes round
abbrev pub turned_number : ℕ → ℕ → ℕ → ℕ
turned_number count first alternative = (alternative + count - first) % count

-- when a visit comes to the argument: by its alternative, then by the ranks of its cuts, then by its number
abbrev pub visited_at : PosedProblem → Visit → SplitArgument → List ℕ
visited_at p visit argument =
    turned_number (length (alternatives_of p.grammar argument.cell.rule)) visit.first argument.alternative
    ∷ (ranks_of argument.cell visit.turns argument.cuts ++ argument.number ∷ [])

-- at the first place where the lists differ, the first list is less
abbrev pub is_less : List ℕ → List ℕ → Bool
is_less [] ys = false
is_less (x ∷ xs) [] = false
is_less (x ∷ xs) (y ∷ ys) = if nat_lt x y then true else if nat_eq x y then is_less xs ys else false

-- the first argument is visited before the second
abbrev pub is_before : PosedProblem → Visit → SplitArgument → SplitArgument → Bool
is_before p visit argument other = is_less (visited_at p visit argument) (visited_at p visit other)

-- the argument is visited behind the position, where there is one
abbrev pub is_behind_position : PosedProblem → Visit → Option Position → SplitArgument → Bool
is_behind_position p visit None argument = true
is_behind_position p visit (Some position) argument = is_before p visit (argument_at visit.cell position) argument

-- the visit has still to come to the argument
abbrev pub is_behind : PosedProblem → Visit → SplitArgument → Bool
is_behind p visit argument = is_behind_position p visit visit.at argument

-- the four turns are within their ranges: the first is below the number of the rule's alternatives, the others are at
-- most the cell's length; and where the visit has come to a position, that is one of a viable split
pub record IsWalk (p : PosedProblem) (visit : Visit) : Type 0 where
  pub first : visit.first < length (alternatives_of p.grammar visit.cell.rule)
  pub three : length visit.turns ≡ 3
  pub turns : AllByRecursion (λ turn. turn ≤ visit.cell.to - visit.cell.from) visit.turns
  pub at : (position : Position) → visit.at ≡ Some position → IsSplitArgument p (argument_at visit.cell position)
