use Rattle.std.proofs.Common.{◌≡◌, ◌+◌, ◌≤◌, ℤ, ◌+ℤ◌, ◌*ℤ◌, nat_abs, FitsSigned, w64, to_z, of_z, inl, inr, refl, ap, arith, rules}
use Rattle.std.proofs.lemmas.Int.{ints, to_z-of_z, fits_signed_from_abs}
use Rattle.adp_model.specs.ProblemFields.{greatest_score}
use Rattle.score_numbers.proofs.FirstSums.{same_number}
use Rattle.score_numbers.proofs.sums.Scales.sum.Goals as goal

module _ (a b x y : ℤ) (fits_a : FitsSigned w64 a) (fits_b : FitsSigned w64 b) (fits_x : FitsSigned w64 x) (fits_y : FitsSigned w64 y) (low : nat_abs (a *ℤ x) + nat_abs (b *ℤ y) ≤ greatest_score) where
  -- the products and their sum have 64 bits
  fits_first : FitsSigned w64 (a *ℤ x)
  fits_first = fits_signed_from_abs w64 (a *ℤ x) (omega (arith, low))

  fits_second : FitsSigned w64 (b *ℤ y)
  fits_second = fits_signed_from_abs w64 (b *ℤ y) (omega (arith, low))

  fits_both : FitsSigned w64 ((a *ℤ x) +ℤ (b *ℤ y))
  fits_both = fits_signed_from_abs w64 ((a *ℤ x) +ℤ (b *ℤ y)) (omega (arith, ints))

  first : FitsSigned w64 (to_z w64 (of_z w64 a) *ℤ to_z w64 (of_z w64 x))
  first = simp to_z-of_z fits_first

  second : FitsSigned w64 (to_z w64 (of_z w64 b) *ℤ to_z w64 (of_z w64 y))
  second = simp to_z-of_z fits_second

  both : FitsSigned w64 (to_z w64 (of_z w64 (to_z w64 (of_z w64 a) *ℤ to_z w64 (of_z w64 x))) +ℤ to_z w64 (of_z w64 (to_z w64 (of_z w64 b) *ℤ to_z w64 (of_z w64 y))))
  both = let fits = fits_first in let fits' = fits_second in simp to_z-of_z fits_both

  both_is : to_z w64 (of_z w64 (to_z w64 (of_z w64 (to_z w64 (of_z w64 a) *ℤ to_z w64 (of_z w64 x))) +ℤ to_z w64 (of_z w64 (to_z w64 (of_z w64 b) *ℤ to_z w64 (of_z w64 y)))))
      ≡ ((a *ℤ x) +ℤ (b *ℤ y))
  both_is = let fits = fits_first in let fits' = fits_second in let fits'' = fits_both in simp to_z-of_z

pub overflow_mul-result : goal.overflow_mul-result
overflow_mul-result c =
    first c.args.self.before c.args.self.behind c.args.before c.args.behind (search rules) (search rules) c.ranges.before c.ranges.behind
    (c.requires.low (λ e. c.if-behind-mark.false.0 (ap (of_z w64) e)) (λ e. c.if-behind-mark.false.1 (ap (of_z w64) e)))

pub overflow_mul-result-else-behind-mark : goal.overflow_mul-result-else-behind-mark
overflow_mul-result-else-behind-mark c =
    second c.args.self.before c.args.self.behind c.args.before c.args.behind (search rules) (search rules) c.ranges.before c.ranges.behind
    (c.requires.low (λ e. c.if-behind-mark.false.0 (ap (of_z w64) e)) (λ e. c.if-behind-mark.false.1 (ap (of_z w64) e)))

pub overflow_add-result : goal.overflow_add-result
overflow_add-result c =
    both c.args.self.before c.args.self.behind c.args.before c.args.behind (search rules) (search rules) c.ranges.before c.ranges.behind
    (c.requires.low (λ e. c.if-behind-mark.false.0 (ap (of_z w64) e)) (λ e. c.if-behind-mark.false.1 (ap (of_z w64) e)))

pub returns-then-behind-mark-clause-marked : goal.returns-then-behind-mark-clause-marked
returns-then-behind-mark-clause-marked c = λ marked. refl

pub returns-then-behind-mark-clause-scored : goal.returns-then-behind-mark-clause-scored
returns-then-behind-mark-clause-scored c = λ apart apart'.
    absurd (elim c.if-behind-mark.either [
      | inl e ↦ apart (same_number c.args.before c.args.mark c.ranges.before c.ranges.mark e)
      | inr e ↦ apart' (same_number c.args.behind c.args.mark c.ranges.behind c.ranges.mark e.1)
    ])

pub returns-else-behind-mark-clause-marked : goal.returns-else-behind-mark-clause-marked
returns-else-behind-mark-clause-marked c = λ marked.
    absurd (elim marked [ inl e ↦ c.if-behind-mark.false.0 (ap (of_z w64) e) | inr e ↦ c.if-behind-mark.false.1 (ap (of_z w64) e) ])

pub returns-else-behind-mark-clause-scored : goal.returns-else-behind-mark-clause-scored
returns-else-behind-mark-clause-scored c = λ apart apart'.
    both_is c.args.self.before c.args.self.behind c.args.before c.args.behind (search rules) (search rules) c.ranges.before c.ranges.behind (c.requires.low apart apart')
