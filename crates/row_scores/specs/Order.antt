-- An order of rules in which each stands behind those of which its row of a start is made.
use Rattle.std.specs.Prelude.{◌≡◌, ◌⊎◌, ℕ, ◌<◌, Bool, true, false, Some, List, [], ◌∷◌, length, slice_get, slice_index_or}
use Rattle.std.specs.List.{Contains}
use Rattle.adp_model.specs.declared.grammar.Arg.{Arg}
use Rattle.adp_model.specs.declared.grammar.Arg.TheVariants.{Rule}
use Rattle.adp_model.specs.declared.cell.Cell.{Cell}
use Rattle.adp_model.specs.PosedProblem.{PosedProblem}
use Rattle.adp_model.specs.Parts.{alternatives_of, arguments_of}
use Rattle.adp_model.specs.Demand.{IsDemandedChild}
use Rattle.adp_model.specs.Splits.{FitsSpan}
use Rattle.viable_splits.specs.Placing.{on_span}

-- all rules, so that a cell demands of those that begin where it begins only cells of rules that stand before its own
pub record AreInRowOrder (p : PosedProblem) (rules : List ℕ) : Type 0 where
  pub known : (rule : ℕ) → Contains rules rule → rule < length p.grammar.rules
  pub all : (rule : ℕ) → rule < length p.grammar.rules → Contains rules rule
  pub children_first : (number : ℕ) (cell child : Cell) → slice_get rules number ≡ Some cell.rule
      → child.from ≡ cell.from → IsDemandedChild p cell child
      → (before : ℕ) × (before < number) × (slice_get rules before ≡ Some child.rule)

-- the argument may have no letter at some position
abbrev pub MayBeEmpty : PosedProblem → Arg → Type 0
MayBeEmpty p argument = (position : ℕ) × FitsSpan p (on_span argument position position)

-- the rule may stand where the arguments begin: those before it may be empty
abbrev pub MayBegin : PosedProblem → List Arg → ℕ → Type 0
MayBegin p [] rule = ⊥
MayBegin p (argument ∷ arguments) rule = (argument ≡ Rule rule) ⊎ (MayBeEmpty p argument × MayBegin p arguments rule)

-- an alternative of the rule may begin with the other one
abbrev pub BeginsWith : PosedProblem → ℕ → ℕ → Type 0
BeginsWith p rule other =
    (alternative : ℕ) × (alternative < length (alternatives_of p.grammar rule))
    × MayBegin p (arguments_of p.grammar rule alternative) other

-- the rule is among these
abbrev pub IsPlaced : List Bool → ℕ → Type 0
IsPlaced placed rule = slice_index_or placed rule false ≡ true

-- the rules that are placed stand in the order, each behind those that it may begin with
pub record ArePlaced (p : PosedProblem) (placed : List Bool) (order : List ℕ) : Type 0 where
  pub each : length placed ≡ length p.grammar.rules
  pub there : (rule : ℕ) → IsPlaced placed rule → Contains order rule
  pub known : (rule : ℕ) → Contains order rule → rule < length p.grammar.rules
  pub behind : (number rule other : ℕ) → slice_get order number ≡ Some rule → BeginsWith p rule other
      → (before : ℕ) × (before < number) × (slice_get order before ≡ Some other)
