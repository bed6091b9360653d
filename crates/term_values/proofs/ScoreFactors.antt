-- The score factors of a term, one after another.
use Rattle.std.proofs.Common.{◌≡◌, ◌↔◌, ℕ, zero, suc, ◌+◌, ◌<◌, List, [], ◌∷◌, length, get_or, drop, ℤ, pos, ◌≤ℤ◌, add-one, arith}
use Rattle.adp_model.specs.declared.grammar.Kind.{Kind}
use Rattle.adp_model.specs.declared.grammar.Kind.TheVariants.{Score, Token}
use Rattle.adp_model.specs.TermSigns.{ScoreFactorsFrom, kind_at}

score_step : (least : ℤ) (factors : List ℤ) (kinds : List Kind) (i : ℕ) → i < length factors → kind_at kinds i ≡ Score
    → ScoreFactorsFrom least (drop i factors) (drop i kinds) ↔ ((least ≤ℤ get_or factors i (pos 0)) × ScoreFactorsFrom least (drop (suc i) factors) (drop (suc i) kinds))
score_step least [] kinds i inside is = absurd (omega arith)
score_step least (factor ∷ factors) [] i inside is = absurd cc
score_step least (factor ∷ factors) (Score ∷ kinds) zero inside is = ((λ h. h), (λ h. h))
score_step least (factor ∷ factors) (Token ∷ kinds) zero inside is = absurd cc
score_step least (factor ∷ factors) (kind ∷ kinds) (suc i) inside is = score_step least factors kinds i (omega arith) is

pub from_score : (least : ℤ) (factors : List ℤ) (kinds : List Kind) (i : ℕ) → i < length factors → kind_at kinds i ≡ Score
    → ScoreFactorsFrom least (drop i factors) (drop i kinds) ↔ ((least ≤ℤ get_or factors i (pos 0)) × ScoreFactorsFrom least (drop (i + 1) factors) (drop (i + 1) kinds))
from_score least factors kinds i inside is = rw add-one (score_step least factors kinds i inside is)

none_left : (least : ℤ) (factors : List ℤ) (i : ℕ) → ScoreFactorsFrom least factors (drop i [])
none_left least [] i = tt
none_left least (factor ∷ factors) zero = tt
none_left least (factor ∷ factors) (suc i) = tt

token_step : (least : ℤ) (factors : List ℤ) (kinds : List Kind) (i : ℕ) → i < length factors → kind_at kinds i ≡ Token
    → ScoreFactorsFrom least (drop i factors) (drop i kinds) ↔ ScoreFactorsFrom least (drop (suc i) factors) (drop (suc i) kinds)
token_step least [] kinds i inside is = absurd (omega arith)
token_step least (factor ∷ factors) [] i inside is = ((λ h. none_left least (drop i factors) (suc i)), (λ h. none_left least (drop i (factor ∷ factors)) i))
token_step least (factor ∷ factors) (Score ∷ kinds) zero inside is = absurd cc
token_step least (factor ∷ factors) (Token ∷ kinds) zero inside is = ((λ h. h), (λ h. h))
token_step least (factor ∷ factors) (kind ∷ kinds) (suc i) inside is = token_step least factors kinds i (omega arith) is

pub from_token : (least : ℤ) (factors : List ℤ) (kinds : List Kind) (i : ℕ) → i < length factors → kind_at kinds i ≡ Token
    → ScoreFactorsFrom least (drop i factors) (drop i kinds) ↔ ScoreFactorsFrom least (drop (i + 1) factors) (drop (i + 1) kinds)
from_token least factors kinds i inside is = rw add-one (token_step least factors kinds i inside is)
