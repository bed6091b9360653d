-- Faults of a grammar under the algebra of a name: what the checks refuse, the first kind that there is and its first
-- rule or sign.
use Rattle.std.specs.Prelude.{◌≡◌, ℕ, ◌<◌, Option, List, length}
use Rattle.adp_model.specs.declared.fault.GrammarFault.{GrammarFault}
use Rattle.adp_model.specs.declared.grammar.Grammar.{Grammar}
use Rattle.adp_model.specs.Parts.{rule_at, alternatives_of, alternative_at, algebra_at, sign_at}
use Rattle.adp_model.specs.GrammarSigns.{HasMonotoneTerm}
use Rattle.adp_model.specs.Lengths.{IsProductive}
use Rattle.adp_model.specs.Sizes.{AreSizesOf, IsPossible}
use Rattle.adp_model.specs.Loops.{IsOnLoop}

-- the name of a rule
abbrev pub rule_name : Grammar → ℕ → List ℕ
rule_name grammar rule = (rule_at grammar rule).name

-- the algebra of this number has the name
pub record IsNamed (grammar : Grammar) (name : List ℕ) (algebra : ℕ) : Type 0 where
  pub in_range : algebra < length grammar.algebras
  pub name_is : (algebra_at grammar algebra).name ≡ name

-- the first of so many that is faulty; those before it are sound
pub record IsFirstFaulty (IsFaulty IsSound : ℕ → Type 0) (count number : ℕ) : Type 0 where
  pub in_range : number < count
  pub faulty : IsFaulty number
  pub before : (other : ℕ) → other < number → IsSound other

-- the rule has no length at all
abbrev pub IsUnproductive : Grammar → ℕ → Type 0
IsUnproductive grammar rule = IsProductive grammar rule → ⊥

-- the rule is on no loop
abbrev pub IsOffLoops : Grammar → ℕ → Type 0
IsOffLoops grammar rule = IsOnLoop grammar rule → ⊥

-- the algebra's term for the sign is not monotone
abbrev pub HasOtherTerm : Grammar → ℕ → ℕ → Type 0
HasOtherTerm grammar algebra sign = HasMonotoneTerm grammar algebra sign → ⊥

-- all alternatives of the rule are possible
abbrev pub HasPossibleAlternatives : Grammar → ℕ → Type 0
HasPossibleAlternatives grammar rule =
    (least : List ℕ) (greatest : List (Option ℕ)) → AreSizesOf grammar least greatest → (alternative : ℕ)
    → alternative < length (alternatives_of grammar rule)
    → IsPossible least greatest (alternative_at grammar rule alternative)

-- one of them is not
abbrev pub HasImpossibleAlternative : Grammar → ℕ → Type 0
HasImpossibleAlternative grammar rule = HasPossibleAlternatives grammar rule → ⊥

-- the grammar has no fault under this algebra, which has the name
pub record IsFaultless (grammar : Grammar) (name : List ℕ) (algebra : ℕ) : Type 0 where
  pub named : IsNamed grammar name algebra
  pub productive : (rule : ℕ) → rule < length grammar.rules → IsProductive grammar rule
  pub no_loop : (rule : ℕ) → rule < length grammar.rules → IsOffLoops grammar rule
  pub monotone : (sign : ℕ) → sign < length grammar.signs → HasMonotoneTerm grammar algebra sign
  pub possible : (rule : ℕ) → rule < length grammar.rules → HasPossibleAlternatives grammar rule

-- the fault of the grammar under the algebra of this name
pub data IsGrammarFault (grammar : Grammar) (name : List ℕ) : GrammarFault → Type 0 where
  NoAlgebra : ((algebra : ℕ) → IsNamed grammar name algebra → ⊥)
      → IsGrammarFault grammar name (record { kind = 1; name = name })
  Unproductive : (algebra rule : ℕ) → IsNamed grammar name algebra
      → IsFirstFaulty (IsUnproductive grammar) (IsProductive grammar) (length grammar.rules) rule
      → IsGrammarFault grammar name (record { kind = 2; name = rule_name grammar rule })
  Loop : (algebra rule : ℕ) → IsNamed grammar name algebra
      → ((other : ℕ) → other < length grammar.rules → IsProductive grammar other)
      → IsFirstFaulty (IsOnLoop grammar) (IsOffLoops grammar) (length grammar.rules) rule
      → IsGrammarFault grammar name (record { kind = 3; name = rule_name grammar rule })
  NotMonotone : (algebra sign : ℕ) → IsNamed grammar name algebra
      → ((rule : ℕ) → rule < length grammar.rules → IsProductive grammar rule)
      → ((rule : ℕ) → rule < length grammar.rules → IsOffLoops grammar rule)
      → IsFirstFaulty (HasOtherTerm grammar algebra) (HasMonotoneTerm grammar algebra) (length grammar.signs) sign
      → IsGrammarFault grammar name (record { kind = 4; name = (sign_at grammar sign).name })
  Impossible : (algebra rule : ℕ) → IsNamed grammar name algebra
      → ((other : ℕ) → other < length grammar.rules → IsProductive grammar other)
      → ((other : ℕ) → other < length grammar.rules → IsOffLoops grammar other)
      → ((sign : ℕ) → sign < length grammar.signs → HasMonotoneTerm grammar algebra sign)
      → IsFirstFaulty (HasImpossibleAlternative grammar) (HasPossibleAlternatives grammar) (length grammar.rules) rule
      → IsGrammarFault grammar name (record { kind = 5; name = rule_name grammar rule })
