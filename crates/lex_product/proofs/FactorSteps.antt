-- Factors and terms one after another: what is left of them at a place, and behind it.
use Rattle.std.proofs.Common.{◌≡◌, ◌↔◌, ℕ, ◌+◌, ◌<◌, List, [], ◌∷◌, length, get_or, drop, max, ℤ, pos, nat_abs, Bool}
use Rattle.std.proofs.lemmas.List.{drop_more}
use Rattle.adp_model.specs.declared.grammar.Kind.{Kind}
use Rattle.adp_model.specs.declared.grammar.Kind.TheVariants.{Score, Token}
use Rattle.adp_model.specs.declared.grammar.Sign.{Sign}
use Rattle.adp_model.specs.declared.grammar.Term.{Term}
use Rattle.adp_model.specs.declared.grammar.Term.TheVariants.{Linear}
use Rattle.lex_product.specs.CompiledTerms.{joined, joined_factors, joined_term, joined_terms}
use Rattle.lex_product.specs.CompiledGrammar.{greatest_factor, greatest_of_term, greatest_number}
use Rattle.lex_product.specs.FittingTerms.{kinds_at, term_in}
use Rattle.lex_product.specs.PairFaults.{HaveUnitScores}

pub unit_score : (factors : List ℤ) (kinds : List Kind) (i : ℕ) → i < length factors → i < length kinds → get_or kinds i Score ≡ Score
    → HaveUnitScores (drop i factors) (drop i kinds) ↔ ((get_or factors i (pos 0) ≡ pos 1) × HaveUnitScores (drop (i + 1) factors) (drop (i + 1) kinds))
unit_score factors kinds i in_factors in_kinds is =
    rw (drop_more factors i (pos 0) in_factors, drop_more kinds i Score in_kinds, is) ((λ h. h), (λ h. h))

pub unit_token : (factors : List ℤ) (kinds : List Kind) (i : ℕ) → i < length factors → i < length kinds → get_or kinds i Score ≡ Token
    → HaveUnitScores (drop i factors) (drop i kinds) ↔ HaveUnitScores (drop (i + 1) factors) (drop (i + 1) kinds)
unit_token factors kinds i in_factors in_kinds is =
    rw (drop_more factors i (pos 0) in_factors, drop_more kinds i Score in_kinds, is) ((λ h. h), (λ h. h))

module _ (m : ℕ) (same : Bool) (kinds : List Kind) (factors factors' : List ℤ) (i : ℕ) (in_kinds : i < length kinds) (in_factors : i < length factors) (in_factors' : i < length factors') where
  pub greatest_score_step : get_or kinds i Score ≡ Score
      → greatest_factor m same (drop i kinds) (drop i factors) (drop i factors') ≡ greatest_factor m same (drop (i + 1) kinds) (drop (i + 1) factors) (drop (i + 1) factors')
  greatest_score_step is =
      rw (drop_more kinds i Score in_kinds, drop_more factors i (pos 0) in_factors, drop_more factors' i (pos 0) in_factors', is)

  pub greatest_token_step : get_or kinds i Score ≡ Token
      → greatest_factor m same (drop i kinds) (drop i factors) (drop i factors')
      ≡ max (nat_abs (joined m same (get_or factors i (pos 0), get_or factors' i (pos 0)))) (greatest_factor m same (drop (i + 1) kinds) (drop (i + 1) factors) (drop (i + 1) factors'))
  greatest_token_step is =
      rw (drop_more kinds i Score in_kinds, drop_more factors i (pos 0) in_factors, drop_more factors' i (pos 0) in_factors', is)

  pub factors_score_step : get_or kinds i Score ≡ Score
      → joined_factors m same (drop i kinds) (drop i factors) (drop i factors') ≡ pos 1 ∷ joined_factors m same (drop (i + 1) kinds) (drop (i + 1) factors) (drop (i + 1) factors')
  factors_score_step is =
      rw (drop_more kinds i Score in_kinds, drop_more factors i (pos 0) in_factors, drop_more factors' i (pos 0) in_factors', is)

  pub factors_token_step : get_or kinds i Score ≡ Token
      → joined_factors m same (drop i kinds) (drop i factors) (drop i factors')
      ≡ joined m same (get_or factors i (pos 0), get_or factors' i (pos 0)) ∷ joined_factors m same (drop (i + 1) kinds) (drop (i + 1) factors) (drop (i + 1) factors')
  factors_token_step is =
      rw (drop_more kinds i Score in_kinds, drop_more factors i (pos 0) in_factors, drop_more factors' i (pos 0) in_factors', is)

module _ (m : ℕ) (same : Bool) (signs : List Sign) (terms terms' : List Term) (i : ℕ) (in_signs : i < length signs) (in_terms : i < length terms) (in_terms' : i < length terms') where
  pub greatest_step : greatest_number m same (drop i signs) (drop i terms) (drop i terms')
      ≡ max (greatest_of_term m same (kinds_at signs i) (term_in terms i) (term_in terms' i)) (greatest_number m same (drop (i + 1) signs) (drop (i + 1) terms) (drop (i + 1) terms'))
  greatest_step =
      rw (
        drop_more signs i (record { name = []; kinds = [] }) in_signs,
        drop_more terms i (Linear (record { constant = pos 0; factors = [] })) in_terms,
        drop_more terms' i
            (Linear (record { constant = pos 0; factors = [] })) in_terms',
      )

  pub terms_step : joined_terms m same (drop i signs) (drop i terms) (drop i terms')
      ≡ joined_term m same (kinds_at signs i) (term_in terms i) (term_in terms' i) ∷ joined_terms m same (drop (i + 1) signs) (drop (i + 1) terms) (drop (i + 1) terms')
  terms_step =
      rw (
        drop_more signs i (record { name = []; kinds = [] }) in_signs,
        drop_more terms i (Linear (record { constant = pos 0; factors = [] })) in_terms,
        drop_more terms' i
            (Linear (record { constant = pos 0; factors = [] })) in_terms',
      )
