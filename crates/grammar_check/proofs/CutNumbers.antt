-- Cut numbers: sums, products and greatest numbers of cut numbers are those of the numbers, cut.
use Rattle.std.proofs.Common.{◌≡◌, ℕ, zero, suc, ◌+◌, ◌*◌, ◌^◌, ◌≤◌, min, max, ◌⊎◌, inl, inr, ap, ap₂, ◌∙◌, arith}
use Rattle.std.proofs.Math.Nat.{mul-le-mul_left}
use Rattle.adp_model.specs.LimitFaults.{told}

low_or_high : (n cut : ℕ) → (n ≤ cut) ⊎ (cut ≤ n)
low_or_high n cut = grind arith

product_at : (cut a b : ℕ) → min (a * min b cut) cut ≡ min (a * b) cut
product_at cut a b = by (low_or_high b cut)
  where
    by : (b ≤ cut) ⊎ (cut ≤ b) → min (a * min b cut) cut ≡ min (a * b) cut
    by (inl low) = let e : min b cut ≡ b = omega arith in rw e
    by (inr high) = let e : min b cut ≡ cut = omega arith in rw e (times a)
      where
        times : (k : ℕ) → min (k * cut) cut ≡ min (k * b) cut
        times zero = grind arith
        times (suc k) =
            let more = mul-le-mul_left (suc k) high in
            let whole : cut ≤ suc k * cut = grind arith in
            omega arith

pub told-product : (a b : ℕ) → told (a * told b) ≡ told (a * b)
told-product a b = product_at (2 ^ 63) a b

pub told-sum : (a b : ℕ) → told (told a + told b) ≡ told (a + b)
told-sum a b = omega arith

pub told-max : (a b : ℕ) → max (told a) (told b) ≡ told (max a b)
told-max a b = omega arith

commuted : (a b : ℕ) → a * b ≡ b * a
commuted a b = grind arith

told-both : (a b : ℕ) → told (told a * told b) ≡ told (a * b)
told-both a b = told-product (told a) b ∙ ap told (commuted (told a) b) ∙ told-product b a ∙ ap told (commuted b a)

told-one : (a : ℕ) → max 1 (told a) ≡ told (max 1 a)
told-one a = omega arith

-- products of numbers at least 1
pub told-ones : (a b : ℕ) → told (max 1 (told a) * max 1 (told b)) ≡ told (max 1 a * max 1 b)
told-ones a b = ap₂ (λ x y. told (x * y)) (told-one a) (told-one b) ∙ told-both (max 1 a) (max 1 b)
