-- Anchored rules: those whose cells all begin where the word begins, or all end where it ends.
use Rattle.std.specs.Prelude.{◌≡◌, ℕ, ◌<◌, ◌⊎◌, Some, List, [], ◌∷◌, length}
use Rattle.std.specs.List.{Contains}
use Rattle.adp_model.specs.declared.grammar.Arg.{Arg}
use Rattle.adp_model.specs.declared.grammar.Arg.TheVariants.{Rule, Literal, Letter, Run}
use Rattle.adp_model.specs.declared.grammar.Grammar.{Grammar}
use Rattle.adp_model.specs.Parts.{alternatives_of, arguments_of}
use Rattle.adp_model.specs.Sizes.{IsGreatestSize, Names}

-- references lead from the axiom to the rule, or it is the axiom
pub data IsReachedRule (grammar : Grammar) : ℕ → Type 0 where
  TheAxiom : IsReachedRule grammar grammar.axiom
  Named : (rule other : ℕ) → IsReachedRule grammar rule → Names grammar rule other → IsReachedRule grammar other

-- the argument's greatest size is not 0
abbrev pub CanBeNonempty : Grammar → Arg → Type 0
CanBeNonempty grammar (Rule rule) = IsGreatestSize grammar rule (Some 0) → ⊥
CanBeNonempty grammar (Literal text) = 0 < length text
CanBeNonempty grammar (Letter class) = Unit {0}
CanBeNonempty grammar (Run class low high) = high ≡ Some 0 → ⊥

-- an argument names the rule, and one before it can be nonempty
abbrev pub IsNamedBehind : Grammar → ℕ → List Arg → Type 0
IsNamedBehind grammar rule [] = ⊥
IsNamedBehind grammar rule (argument ∷ arguments) =
    (CanBeNonempty grammar argument × Contains arguments (Rule rule)) ⊎ IsNamedBehind grammar rule arguments

-- one of the arguments can be nonempty
abbrev pub SomeCanBeNonempty : Grammar → List Arg → Type 0
SomeCanBeNonempty grammar [] = ⊥
SomeCanBeNonempty grammar (argument ∷ arguments) = CanBeNonempty grammar argument ⊎ SomeCanBeNonempty grammar arguments

-- an argument names the rule, and one after it can be nonempty
abbrev pub IsNamedBefore : Grammar → ℕ → List Arg → Type 0
IsNamedBefore grammar rule [] = ⊥
IsNamedBefore grammar rule (argument ∷ arguments) =
    ((argument ≡ Rule rule) × SomeCanBeNonempty grammar arguments) ⊎ IsNamedBefore grammar rule arguments

-- a reached rule has an alternative whose arguments are so
abbrev pub SomeReached : (List Arg → Type 0) → Grammar → Type 0
SomeReached AreSo grammar =
    (rule : ℕ) × (alternative : ℕ) × IsReachedRule grammar rule × (alternative < length (alternatives_of grammar rule))
    × AreSo (arguments_of grammar rule alternative)

-- the rule is not left-anchored: a reached rule names it behind an argument that can be nonempty, or is itself not
-- left-anchored and names it
pub data IsLeftFree (grammar : Grammar) : ℕ → Type 0 where
  Behind : (rule : ℕ) → SomeReached (IsNamedBehind grammar rule) grammar → IsLeftFree grammar rule
  LeftOf : (rule other : ℕ) → IsReachedRule grammar rule → IsLeftFree grammar rule → Names grammar rule other
      → IsLeftFree grammar other

-- the rule is not right-anchored
pub data IsRightFree (grammar : Grammar) : ℕ → Type 0 where
  Before : (rule : ℕ) → SomeReached (IsNamedBefore grammar rule) grammar → IsRightFree grammar rule
  RightOf : (rule other : ℕ) → IsReachedRule grammar rule → IsRightFree grammar rule → Names grammar rule other
      → IsRightFree grammar other

abbrev pub IsLeftAnchored : Grammar → ℕ → Type 0
IsLeftAnchored grammar rule = IsLeftFree grammar rule → ⊥

abbrev pub IsRightAnchored : Grammar → ℕ → Type 0
IsRightAnchored grammar rule = IsRightFree grammar rule → ⊥
