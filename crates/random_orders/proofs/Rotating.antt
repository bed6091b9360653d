-- A rotation comes to each number.
use Rattle.std.proofs.Common.{◌≡◌, ℕ, ◌+◌, ◌-◌, ◌<◌, ◌≤◌, ◌%◌, ◌⊎◌, inl, inr, ap, ◌∙◌, arith}
use Rattle.std.proofs.Math.Nat.{add-mod_right, mod-eq_of_lt}

pub rotation_reaches : (m start number : ℕ) → start < m → number < m
    → (t : ℕ) × (t < m) × ((start + t) % m ≡ number)
rotation_reaches m start number start-below number-below =
    let cases : (number < start) ⊎ (start ≤ number) = grind arith in
    let itself : number % m ≡ number = mod-eq_of_lt number-below in
    elim cases [
      | inl before ↦
          let around : start + (number + (m - start)) ≡ number + m = omega arith in
          (number + (m - start), omega arith, ap (λ (n : ℕ). n % m) around ∙ add-mod_right number m ∙ itself)
      | inr behind ↦
          let there : start + (number - start) ≡ number = omega arith in
          (number - start, omega arith, ap (λ (n : ℕ). n % m) there ∙ itself)
    ]
