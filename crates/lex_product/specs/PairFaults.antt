-- Faults of a pair of algebras, and of its compiled numbers.
use Rattle.std.specs.Prelude.{◌≡◌, ℕ, ◌<◌, ℤ, pos, List, [], ◌∷◌, length}
use Rattle.adp_model.specs.declared.fault.GrammarFault.{GrammarFault}
use Rattle.adp_model.specs.declared.fault.LimitFault.{LimitFault}
use Rattle.adp_model.specs.declared.grammar.Grammar.{Grammar}
use Rattle.adp_model.specs.declared.grammar.Kind.{Kind}
use Rattle.adp_model.specs.declared.grammar.Kind.TheVariants.{Score, Token}
use Rattle.adp_model.specs.declared.grammar.Term.{Term}
use Rattle.adp_model.specs.declared.grammar.Term.TheVariants.{Linear, Wide}
use Rattle.adp_model.specs.Parts.{sign_at, term_for}
use Rattle.adp_model.specs.GrammarFaults.{IsNamed, IsFirstFaulty}
use Rattle.adp_model.specs.LimitFaults.{told}
use Rattle.adp_model.specs.ProblemFields.{greatest_score}
use Rattle.lex_product.specs.CompiledGrammar.{greatest_compiled, multiplier_of}

-- each score argument has the factor 1; token arguments may have any
abbrev pub HaveUnitScores : List ℤ → List Kind → Type 0
HaveUnitScores [] kinds = Unit {0}
HaveUnitScores (factor ∷ factors) [] = Unit {0}
HaveUnitScores (factor ∷ factors) (Score ∷ kinds) = (factor ≡ pos 1) × HaveUnitScores factors kinds
HaveUnitScores (factor ∷ factors) (Token ∷ kinds) = HaveUnitScores factors kinds

-- the term adds its arguments' scores as they are: it is linear, and no wide term counts as one that does
abbrev pub IsAdding : Term → List Kind → Type 0
IsAdding (Linear term) kinds = HaveUnitScores term.factors kinds
IsAdding (Wide term) kinds = ⊥

-- the algebra's term for the sign does
abbrev pub AddsScores : Grammar → ℕ → ℕ → Type 0
AddsScores grammar algebra sign = IsAdding (term_for grammar algebra sign) (sign_at grammar sign).kinds

-- both algebras' terms do
abbrev pub BothAddScores : Grammar → ℕ → ℕ → ℕ → Type 0
BothAddScores grammar first second sign = AddsScores grammar first sign × AddsScores grammar second sign

-- one of them doesn't
abbrev pub HasOtherFactor : Grammar → ℕ → ℕ → ℕ → Type 0
HasOtherFactor grammar first second sign = BothAddScores grammar first second sign → ⊥

-- all terms of both algebras add scores as they are
abbrev pub AllAddScores : Grammar → ℕ → ℕ → Type 0
AllAddScores grammar first second =
    (sign : ℕ) → sign < length grammar.signs → BothAddScores grammar first second sign

-- the fault of the algebra of this number with the one of this name
pub data IsPairFault (grammar : Grammar) (first : ℕ) (name : List ℕ) : GrammarFault → Type 0 where
  NoAlgebra : ((algebra : ℕ) → IsNamed grammar name algebra → ⊥)
      → IsPairFault grammar first name (record { kind = 1; name = name })
  OtherFactor : (second sign : ℕ) → IsNamed grammar name second
      → IsFirstFaulty (HasOtherFactor grammar first second) (BothAddScores grammar first second) (length grammar.signs)
      sign
      → IsPairFault grammar first name (record { kind = 6; name = (sign_at grammar sign).name })

-- the fault of the pair where the second algebra has this score bound: a compiled number is greater than a score may be
pub record IsNumberFault (grammar : Grammar) (first second bound : ℕ) (fault : LimitFault) : Type 0 where
  pub great : greatest_score < greatest_compiled grammar first second (multiplier_of bound)
  pub is : fault ≡ record { kind = 7; number = told (greatest_compiled grammar first second (multiplier_of bound)) }
