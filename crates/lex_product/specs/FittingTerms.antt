-- Linear terms that fit their signs.
use Rattle.std.specs.Prelude.{◌≡◌, ℕ, ◌<◌, pos, List, [], length, slice_index_or}
use Rattle.adp_model.specs.declared.grammar.Kind.{Kind}
use Rattle.adp_model.specs.declared.grammar.Sign.{Sign}
use Rattle.adp_model.specs.declared.grammar.Term.{Term}
use Rattle.adp_model.specs.declared.grammar.Term.TheVariants.{Linear, Wide}

-- the term is linear
abbrev pub IsLinear : Term → Type 0
IsLinear (Linear term) = Unit {0}
IsLinear (Wide term) = ⊥

-- a linear term with a factor for each kind
abbrev pub AreFactorsOf : List Kind → Term → Type 0
AreFactorsOf kinds (Linear term) = length term.factors ≡ length kinds
AreFactorsOf kinds (Wide term) = ⊥

-- the term at this place, or one that has nothing
abbrev pub term_in : List Term → ℕ → Term
term_in terms place = slice_index_or terms place (Linear (record { constant = pos 0; factors = [] }))

-- the kinds of the sign at this place
abbrev pub kinds_at : List Sign → ℕ → List Kind
kinds_at signs place = (slice_index_or signs place (record { name = []; kinds = [] })).kinds

-- a linear term for each sign, with a factor for each of its kinds
pub record AreTermsOf (signs : List Sign) (terms : List Term) : Type 0 where
  pub each : length terms ≡ length signs
  pub fit : (place : ℕ) → place < length signs → AreFactorsOf (kinds_at signs place) (term_in terms place)
