-- Numbers as they are kept.
use Rattle.std.proofs.Common.{◌≡◌, ℕ, ◌+◌, ◌*◌, ◌<◌, ◌≤◌, ◌⊎◌, inl, inr, sym, ap, ◌∙◌, arith}
use Rattle.std.proofs.lemmas.Bool.Decides.{nat_tests}
use Rattle.table_certificate.specs.KeptForms.{kept, greatest_kept}

le_or_lt : (m k : ℕ) → (m ≤ k) ⊎ (k < m)
le_or_lt m k = grind arith

pub kept_low : (n : ℕ) → n ≤ greatest_kept → kept n ≡ n
kept_low n low = grind (arith, nat_tests)

pub kept_high : (n : ℕ) → greatest_kept ≤ n → kept n ≡ greatest_kept
kept_high n high = grind (arith, nat_tests)

pub kept_step : (n d v : ℕ) → v ≡ kept n → kept (v * 10 + d) ≡ kept (n * 10 + d)
kept_step n d v e = by (le_or_lt n greatest_kept)
  where
    by : (n ≤ greatest_kept) ⊎ (greatest_kept < n) → kept (v * 10 + d) ≡ kept (n * 10 + d)
    by (inl low) = ap (λ m. kept (m * 10 + d)) (e ∙ kept_low n low)
    by (inr high) =
        let top : v ≡ greatest_kept = e ∙ kept_high n (omega (arith, high)) in
        kept_high (v * 10 + d) (omega (arith, top)) ∙ sym (kept_high (n * 10 + d) (omega (arith, high)))

-- a kept number below the greatest one is exact
pub kept_exact : (n v : ℕ) → v ≡ kept n → v < greatest_kept → n ≡ v
kept_exact n v e low = by (le_or_lt n greatest_kept)
  where
    by : (n ≤ greatest_kept) ⊎ (greatest_kept < n) → n ≡ v
    by (inl below) = sym (e ∙ kept_low n below)
    by (inr high) = let top : v ≡ greatest_kept = e ∙ kept_high n (omega (arith, high)) in absurd (omega (arith, top, low))

-- and of one that is not below it neither is the number
pub kept_great : (n v : ℕ) → v ≡ kept n → greatest_kept ≤ v → greatest_kept ≤ n
kept_great n v e high = by (le_or_lt n greatest_kept)
  where
    by : (n ≤ greatest_kept) ⊎ (greatest_kept < n) → greatest_kept ≤ n
    by (inl below) = let same : v ≡ n = e ∙ kept_low n below in omega (arith, same, high)
    by (inr above) = omega (arith, above)

-- short numbers
pub kept_short : (n v : ℕ) → v ≡ kept n → v < 65536 → v ≡ n
kept_short n v e low = sym (kept_exact n v e (omega (arith, low)))

pub kept_long : (n v : ℕ) → v ≡ kept n → 65536 ≤ v → 65536 ≤ n
kept_long n v e high = by (le_or_lt n greatest_kept)
  where
    by : (n ≤ greatest_kept) ⊎ (greatest_kept < n) → 65536 ≤ n
    by (inl below) = let same : v ≡ n = e ∙ kept_low n below in omega (arith, same, high)
    by (inr above) = omega (arith, above)
