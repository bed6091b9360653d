-- The ways to give a length to the rule of the grammar of pairs.
use Rattle.std.proofs.Common.{◌≡◌, ℕ, zero, suc, ◌+◌, ◌<◌, List, [], ◌∷◌, sum, refl, subst, sym, arith}
use Rattle.adp_model.specs.Parts.{arguments_of}
use Rattle.adp_model.specs.Bounds.{IsWay, AreInRange}
use Rattle.adp_model.specs.BigReport.{pairs_grammar, paired}
use Rattle.big_problems.proofs.PairsChecked.{within_sizes}

-- ---- each way

pub nil_way : IsWay pairs_grammar 0 0 0 (0 ∷ [])
nil_way = record { in_range = omega arith; fit = (refl, tt); sum_is = refl }

pub skip_way : (b : ℕ) → IsWay pairs_grammar 0 (suc b) 1 (1 ∷ b ∷ [])
skip_way b = record { in_range = omega arith; fit = (refl, (within_sizes b, tt)); sum_is = omega arith }

pub pair_way : (b d : ℕ) → IsWay pairs_grammar 0 (suc (suc (b + d))) 2 (1 ∷ b ∷ 1 ∷ d ∷ [])
pair_way b d = record {
  in_range = omega arith;
  fit = (refl, (within_sizes b, (refl, (within_sizes d, tt))));
  sum_is = omega arith;
}

pub no_way : (rule len alternative : ℕ) (lengths : List ℕ) → IsWay pairs_grammar (suc rule) len alternative lengths → ⊥
no_way rule len alternative lengths way = omega (arith, way.in_range)

-- ---- and there is no other

module _ (P : ℕ → ℕ → List ℕ → Type 0) where
  nil_only : (lengths : List ℕ) → AreInRange pairs_grammar (arguments_of pairs_grammar 0 0) lengths → P 0 0 (0 ∷ [])
      → P (sum lengths) 0 lengths
  nil_only [] fit at = absurd fit
  nil_only (a ∷ []) fit at = subst (λ n. P (sum (n ∷ [])) 0 (n ∷ [])) (sym fit.0) at
  nil_only (a ∷ b ∷ lengths) fit at = absurd fit.1

  skip_only : (lengths : List ℕ) → AreInRange pairs_grammar (arguments_of pairs_grammar 0 1) lengths
      → ((b : ℕ) → P (suc b) 1 (1 ∷ b ∷ [])) → P (sum lengths) 1 lengths
  skip_only [] fit at = absurd fit
  skip_only (a ∷ []) fit at = absurd fit.1
  skip_only (a ∷ b ∷ []) fit at =
      let total : suc b ≡ sum (1 ∷ b ∷ []) = omega arith in
      subst (λ n. P (sum (n ∷ b ∷ [])) 1 (n ∷ b ∷ [])) (sym fit.0) (subst (λ n. P n 1 (1 ∷ b ∷ [])) total (at b))
  skip_only (a ∷ b ∷ c ∷ lengths) fit at = absurd fit.1.1

  pair_only : (first last alternative : ℕ) (lengths : List ℕ)
      → AreInRange pairs_grammar (paired (first ∷ []) (last ∷ [])).args lengths
      → ((b d : ℕ) → P (suc (suc (b + d))) alternative (1 ∷ b ∷ 1 ∷ d ∷ [])) → P (sum lengths) alternative lengths
  pair_only first last alternative [] fit at = absurd fit
  pair_only first last alternative (a ∷ []) fit at = absurd fit.1
  pair_only first last alternative (a ∷ b ∷ []) fit at = absurd fit.1.1
  pair_only first last alternative (a ∷ b ∷ c ∷ []) fit at = absurd fit.1.1.1
  pair_only first last alternative (a ∷ b ∷ c ∷ d ∷ []) fit at =
      let total : suc (suc (b + d)) ≡ sum (1 ∷ b ∷ 1 ∷ d ∷ []) = omega arith in
      subst (λ n. P (sum (n ∷ b ∷ c ∷ d ∷ [])) alternative (n ∷ b ∷ c ∷ d ∷ [])) (sym fit.0)
      (subst (λ n. P (sum (1 ∷ b ∷ n ∷ d ∷ [])) alternative (1 ∷ b ∷ n ∷ d ∷ [])) (sym fit.1.1.0)
      (subst (λ n. P n alternative (1 ∷ b ∷ 1 ∷ d ∷ [])) total (at b d)))
  pair_only first last alternative (a ∷ b ∷ c ∷ d ∷ e ∷ lengths) fit at = absurd fit.1.1.1.1

  -- what holds of these ways holds of all
  pub each_way : P 0 0 (0 ∷ []) → ((b : ℕ) → P (suc b) 1 (1 ∷ b ∷ []))
      → ((b d : ℕ) → P (suc (suc (b + d))) 2 (1 ∷ b ∷ 1 ∷ d ∷ []))
      → ((b d : ℕ) → P (suc (suc (b + d))) 3 (1 ∷ b ∷ 1 ∷ d ∷ []))
      → (len alternative : ℕ) (lengths : List ℕ) → IsWay pairs_grammar 0 len alternative lengths
      → P len alternative lengths
  each_way nil skip outer inner len alternative lengths way =
      subst (λ n. P n alternative lengths) way.sum_is (by alternative way.in_range way.fit)
    where
      by : (number : ℕ) → number < 4 → AreInRange pairs_grammar (arguments_of pairs_grammar 0 number) lengths
          → P (sum lengths) number lengths
      by zero below fit = nil_only lengths fit nil
      by (suc zero) below fit = skip_only lengths fit skip
      by (suc (suc zero)) below fit = pair_only 112 113 2 lengths fit outer
      by (suc (suc (suc zero))) below fit = pair_only 114 115 3 lengths fit inner
      by (suc (suc (suc (suc number)))) below fit = absurd (omega (arith, below))
