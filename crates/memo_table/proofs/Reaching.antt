-- The search for a key comes to each position.
use Rattle.std.proofs.Common.{◌≡◌, ℕ, ◌+◌, ◌-◌, ◌<◌, ◌≤◌, ◌%◌, ◌^◌, ◌⊎◌, inl, inr, sym, ap, ◌∙◌, arith}
use Rattle.std.proofs.Math.Nat.{add-mod_right, mod-eq_of_lt, mod-lt}
use native.Mathlib.Nat.{mod-add-mod}
use Rattle.memo_words.specs.Probes.{home, probed}

reach : (h m p : ℕ) → p < m → (j : ℕ) × (j < m) × ((h + j) % m ≡ p)
reach h m p below =
    let s = h % m in
    let low : s < m = mod-lt h (omega arith) in
    let cases : (p < s) ⊎ (s ≤ p) = grind arith in
    let itself : p % m ≡ p = mod-eq_of_lt below in
    elim cases [
      | inl before ↦
          let around : s + (p + (m - s)) ≡ p + m = omega arith in (
            p + (m - s),
            omega arith,
            sym (mod-add-mod h m (p + (m - s))) ∙ ap (λ (n : ℕ). n % m) around ∙
                add-mod_right p m ∙ itself,
          )
      | inr behind ↦
          let there : s + (p - s) ≡ p = omega arith in
          (p - s, omega arith, sym (mod-add-mod h m (p - s)) ∙ ap (λ (n : ℕ). n % m) there ∙ itself)
    ]

pub reached : (code bits position : ℕ) → position < 2 ^ bits
    → (turn : ℕ) × (turn < 2 ^ bits) × (probed code bits turn ≡ position)
reached code bits position below = reach (home code bits) (2 ^ bits) position below
