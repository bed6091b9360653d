-- Two numbers in one, and terms that compute with both at once.
use Rattle.std.specs.Prelude.{◌≡◌, ℕ, ◌*◌, ◌<◌, ℤ, pos, ◌+ℤ◌, ◌-ℤ◌, ◌*ℤ◌, nat_abs, Bool, true, false, if◌then◌else◌, List, [], ◌∷◌}
use Rattle.adp_model.specs.declared.grammar.Kind.{Kind}
use Rattle.adp_model.specs.declared.grammar.Kind.TheVariants.{Score, Token}
use Rattle.adp_model.specs.declared.grammar.Goal.{Goal}
use Rattle.adp_model.specs.declared.grammar.Goal.TheVariants.{Least, Greatest}
use Rattle.adp_model.specs.declared.grammar.Linear as linear
use Rattle.adp_model.specs.declared.grammar.Sign.{Sign}
use Rattle.adp_model.specs.declared.grammar.Term.{Term}
use Rattle.adp_model.specs.declared.grammar.Term.TheVariants.{Linear}

-- the first number so many times, and to it the second added, or taken from it
abbrev pub joined : ℕ → Bool → ℤ × ℤ → ℤ
joined multiplier same pair =
    let whole = pair.0 *ℤ pos multiplier in if same then whole +ℤ pair.1 else whole -ℤ pair.1

-- the number is this pair's, and the second one is less than half of the multiplier in absolute value
pub record IsJoinedFrom (multiplier : ℕ) (same : Bool) (number : ℤ) (pair : ℤ × ℤ) : Type 0 where
  pub is : number ≡ joined multiplier same pair
  pub small : 2 * nat_abs pair.1 < multiplier

-- the goals are equal
abbrev pub is_same_goal : Goal → Goal → Bool
is_same_goal Least Least = true
is_same_goal Least Greatest = false
is_same_goal Greatest Least = false
is_same_goal Greatest Greatest = true

-- the factors of two terms as one: 1 for a score, both factors in one for a token
abbrev pub joined_factors : ℕ → Bool → List Kind → List ℤ → List ℤ → List ℤ
joined_factors multiplier same [] factors factors' = []
joined_factors multiplier same (kind ∷ kinds) [] factors' = []
joined_factors multiplier same (kind ∷ kinds) (factor ∷ factors) [] = []
joined_factors multiplier same (Score ∷ kinds) (factor ∷ factors) (factor' ∷ factors') =
    pos 1 ∷ joined_factors multiplier same kinds factors factors'
joined_factors multiplier same (Token ∷ kinds) (factor ∷ factors) (factor' ∷ factors') =
    joined multiplier same (factor, factor') ∷ joined_factors multiplier same kinds factors factors'

-- two linear terms for a sign with these kinds as one
abbrev pub joined_linear : ℕ → Bool → List Kind → linear.Linear → linear.Linear → linear.Linear
joined_linear multiplier same kinds term term' = record {
  constant = joined multiplier same (term.constant, term'.constant);
  factors = joined_factors multiplier same kinds term.factors term'.factors;
}

-- two terms as one; those of a pair are linear
abbrev pub joined_term : ℕ → Bool → List Kind → Term → Term → Term
joined_term multiplier same kinds (Linear term) (Linear term') = Linear (joined_linear multiplier same kinds term term')
joined_term multiplier same kinds term term' = term

-- for each sign both terms as one
abbrev pub joined_terms : ℕ → Bool → List Sign → List Term → List Term → List Term
joined_terms multiplier same [] terms terms' = []
joined_terms multiplier same (sign ∷ signs) [] terms' = []
joined_terms multiplier same (sign ∷ signs) (term ∷ terms) [] = []
joined_terms multiplier same (sign ∷ signs) (term ∷ terms) (term' ∷ terms') =
    joined_term multiplier same sign.kinds term term' ∷ joined_terms multiplier same signs terms terms'
