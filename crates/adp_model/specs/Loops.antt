-- Empty-context edges between rules, and loops: rules that lead to themselves with no letter beside them.
use Rattle.std.specs.Prelude.{◌≡◌, ℕ, ◌<◌, ◌⊎◌, List, [], ◌∷◌, length}
use Rattle.std.specs.List.{AllByRecursion}
use Rattle.adp_model.specs.declared.grammar.Arg.{Arg}
use Rattle.adp_model.specs.declared.grammar.Arg.TheVariants.{Rule}
use Rattle.adp_model.specs.declared.grammar.Grammar.{Grammar}
use Rattle.adp_model.specs.Parts.{alternatives_of, arguments_of}
use Rattle.adp_model.specs.Lengths.{AdmitsLength, HasLength}

-- the argument's least size is 0
abbrev pub CanBeEmpty : Grammar → Arg → Type 0
CanBeEmpty grammar (Rule rule) = HasLength grammar rule 0
CanBeEmpty grammar token = AdmitsLength token 0

-- one of the arguments names the rule, and all others can be empty
abbrev pub AreEmptyBut : Grammar → ℕ → List Arg → Type 0
AreEmptyBut grammar rule [] = ⊥
AreEmptyBut grammar rule (argument ∷ arguments) =
    ((argument ≡ Rule rule) × AllByRecursion (CanBeEmpty grammar) arguments)
    ⊎ (CanBeEmpty grammar argument × AreEmptyBut grammar rule arguments)

-- an empty-context edge: an alternative of the first rule names the second, and its other arguments can be empty
abbrev pub IsEdge : Grammar → ℕ → ℕ → Type 0
IsEdge grammar rule other =
    (alternative : ℕ) × (alternative < length (alternatives_of grammar rule))
    × AreEmptyBut grammar other (arguments_of grammar rule alternative)

-- empty-context edges lead from the first rule to the second, one edge or more
pub data IsEdgePath (grammar : Grammar) : ℕ → ℕ → Type 0 where
  Edge : (rule other : ℕ) → IsEdge grammar rule other → IsEdgePath grammar rule other
  Onward : (rule between other : ℕ) → IsEdge grammar rule between → IsEdgePath grammar between other
      → IsEdgePath grammar rule other

-- the rule is on a loop
abbrev pub IsOnLoop : Grammar → ℕ → Type 0
IsOnLoop grammar rule = IsEdgePath grammar rule rule
