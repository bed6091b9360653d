-- The search for a key stays among the positions.
use Rattle.std.proofs.Common.{◌≡◌, ℕ, ◌+◌, ◌-◌, ◌*◌, ◌%◌, ◌^◌, ◌<◌, ◌≤◌, ap, sym, subst, ◌∙◌, arith}
use Rattle.std.proofs.Common.{add-zero}
use Rattle.std.proofs.Math.Nat.{div-lt_iff_lt-mul, mod-lt, mod-eq_of_lt}
use Rattle.std.proofs.Math.Pow.{pow_mono}
use Rattle.std.proofs.lemmas.Nat.{pow-add, pow_pos}
use Rattle.memo_words.specs.Probes.{home, probed}

pub home_below : (code bits : ℕ) → bits ≤ 64 → home code bits < 2 ^ bits
unfolding home
home_below code bits few =
    let spread = code * 11400714819323198485 % 2 ^ 64 in
    let parts : bits + (64 - bits) ≡ 64 = omega arith in
    let whole : 2 ^ 64 ≡ 2 ^ bits * 2 ^ (64 - bits) = ap (λ (n : ℕ). 2 ^ n) (sym parts) ∙ pow-add 2 bits (64 - bits) in
    let less : spread < 2 ^ bits * 2 ^ (64 - bits) =
    subst (λ (n : ℕ). spread < n) whole (mod-lt (code * 11400714819323198485) (pow_pos 64)) in
    (div-lt_iff_lt-mul (pow_pos (64 - bits))).1 less

pub home_below_22 : (code bits : ℕ) → bits ≤ 22 → home code bits < 2 ^ 22
home_below_22 code bits few =
    let below = home_below code bits (omega arith) in
    let most = pow_mono few in
    omega arith

pub home_first : (code bits : ℕ) → bits ≤ 22 → home code bits ≡ probed code bits 0
home_first code bits few =
    sym (ap (λ (n : ℕ). n % 2 ^ bits) (add-zero (home code bits)) ∙ mod-eq_of_lt (home_below code bits (omega arith)))
