-- Sums over the numbers below a bound.
use Rattle.std.proofs.Common.{◌≡◌, ℕ, zero, suc, ◌+◌, ◌<◌, ◌≤◌, ◌≢◌, sym, refl, ap, arith}
use mathlib.Core.Logic.{dite}
use native.Mathlib.Decide.{ℕ_discrete}
use Rattle.memo_words.specs.Layout.{tally}

pub tally_same : (f g : ℕ → ℕ) (n : ℕ) → ((i : ℕ) → i < n → g i ≡ f i) → tally g n ≡ tally f n
tally_same f g zero h = refl
tally_same f g (suc n) h = let t = tally_same f g n (λ i lt. h i (omega arith)) in
    let u = h n (omega arith) in omega arith

pub tally_one : (f g : ℕ → ℕ) (i n : ℕ) → i < n → ((j : ℕ) → j < n → j ≢ i → g j ≡ f j)
    → tally g n + f i ≡ tally f n + g i
tally_one f g i zero lt h = absurd (omega arith)
tally_one f g i (suc n) lt h = dite (ℕ_discrete i n)
    (λ e. let t = tally_same f g n (λ j l. h j (omega arith) (λ z. omega arith)) in let a = ap f e in
    let b = ap g e in omega arith)
    (λ ne. let t = tally_one f g i n (omega arith) (λ j l o. h j (omega arith) o) in
    let u = h n (omega arith) (λ z. ne (sym z)) in omega arith)

pub tally_at : (f : ℕ → ℕ) (i n : ℕ) → i < n → f i ≤ tally f n
tally_at f i zero lt = absurd (omega arith)
tally_at f i (suc n) lt = dite (ℕ_discrete i n) (λ e. let a = ap f e in omega arith) (λ ne.
    let t = tally_at f i n (omega arith) in omega arith)

pub tally_none : (f : ℕ → ℕ) (n : ℕ) → ((i : ℕ) → i < n → f i ≡ 0) → tally f n ≡ 0
tally_none f zero h = refl
tally_none f (suc n) h = let t = tally_none f n (λ i lt. h i (omega arith)) in let u = h n (omega arith) in omega arith

pub tally_le : (f g : ℕ → ℕ) (n : ℕ) → ((i : ℕ) → i < n → f i ≤ g i) → tally f n ≤ tally g n
tally_le f g zero h = omega arith
tally_le f g (suc n) h = let t = tally_le f g n (λ i lt. h i (omega arith)) in let u = h n (omega arith) in omega arith

pub tally_ones : (n : ℕ) → tally (λ c. 1) n ≡ n
tally_ones zero = refl
tally_ones (suc n) = let t = tally_ones n in omega arith

tally_sum : (f g : ℕ → ℕ) (n : ℕ) → tally (λ i. f i + g i) n ≡ tally f n + tally g n
tally_sum f g zero = omega arith
tally_sum f g (suc n) = let t = tally_sum f g n in omega arith

pub tally_swap : (h : ℕ → ℕ → ℕ) (m n : ℕ) → tally (λ i. tally (h i) n) m ≡ tally (λ c. tally (λ i. h i c) m) n
tally_swap h zero n = let t = tally_none (λ c. 0) n (λ i lt. refl) in omega arith
tally_swap h (suc m) n = let t = tally_swap h m n in
    let u = tally_sum (λ c. tally (λ i. h i c) m) (h m) n in omega arith
