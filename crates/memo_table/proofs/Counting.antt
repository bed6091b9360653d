-- Sums over the numbers below a bound, and how many numbers can be told apart by fewer.
use Rattle.std.proofs.Common.{◌≡◌, ◌≢◌, ℕ, zero, suc, ◌+◌, ◌-◌, ◌<◌, ◌≤◌, ◌==◌, min, nat_eq, if◌then◌else◌, refl, sym, ap, ◌∙◌, arith}
use mathlib.Core.Logic.{dite}
use native.Mathlib.Decide.{ℕ_discrete}
use Rattle.memo_words.specs.Layout.{tally}
use Rattle.memo_table.proofs.Seeing.{if_equal, if_other}

pub one_if : (m n : ℕ) → m ≡ n → if◌then◌else◌ {A = ℕ} (nat_eq m n) 1 0 ≡ 1
one_if m n e = if_equal m n 1 0 e

pub none_if : (m n : ℕ) → m ≢ n → if◌then◌else◌ {A = ℕ} (nat_eq m n) 1 0 ≡ 0
none_if m n e = if_other m n 1 0 e

pub tally_at : (f : ℕ → ℕ) (i n : ℕ) → i < n → f i ≤ tally f n
tally_at f i zero lt = absurd (omega arith)
tally_at f i (suc n) lt =
    dite (ℕ_discrete i n) (λ e. let a = ap f e in omega arith)
    (λ ne. let t = tally_at f i n (omega arith) in omega arith)

pub tally_none : (f : ℕ → ℕ) (n : ℕ) → ((i : ℕ) → i < n → f i ≡ 0) → tally f n ≡ 0
tally_none f zero h = refl
tally_none f (suc n) h =
    let t = tally_none f n (λ i lt. h i (omega arith)) in let u = h n (omega arith) in omega arith

pub tally_le : (f g : ℕ → ℕ) (n : ℕ) → ((i : ℕ) → i < n → f i ≤ g i) → tally f n ≤ tally g n
tally_le f g zero h = omega arith
tally_le f g (suc n) h =
    let t = tally_le f g n (λ i lt. h i (omega arith)) in let u = h n (omega arith) in omega arith

pub tally_ones : (n : ℕ) → tally (λ c. 1) n ≡ n
tally_ones zero = refl
tally_ones (suc n) = let t = tally_ones n in omega arith

tally_sum : (f g : ℕ → ℕ) (n : ℕ) → tally (λ i. f i + g i) n ≡ tally f n + tally g n
tally_sum f g zero = omega arith
tally_sum f g (suc n) = let t = tally_sum f g n in omega arith

tally_swap : (h : ℕ → ℕ → ℕ) (m n : ℕ) → tally (λ i. tally (h i) n) m ≡ tally (λ c. tally (λ i. h i c) m) n
tally_swap h zero n = let t = tally_none (λ c. 0) n (λ i lt. refl) in omega arith
tally_swap h (suc m) n =
    let t = tally_swap h m n in let u = tally_sum (λ c. tally (λ i. h i c) m) (h m) n in omega arith

-- numbers that differ where they aren't 0, and are at most `most`: at most so many of them aren't 0
pub told_apart : (f : ℕ → ℕ) (slots most : ℕ) → ((i : ℕ) → i < slots → f i < most + 1)
    → ((i j : ℕ) → i < slots → j < slots → 0 < f i → f i ≡ f j → i ≡ j) → tally (λ i. min (f i) 1) slots ≤ most
told_apart f slots most below apart =
    let hit : ℕ → ℕ → ℕ = λ i c. if f i == c + 1 then 1 else 0 in
    let row : (i : ℕ) → i < slots → min (f i) 1 ≤ tally (hit i) most =
    λ i lt. dite (ℕ_discrete (f i) 0) (λ z. omega arith)
    (λ n.
    let b = below i lt in
    let one = one_if (f i) ((f i - 1) + 1) (omega arith) in
    let t = tally_at (hit i) (f i - 1) most (omega arith) in
    omega arith) in
    let column : (c : ℕ) → c < most → tally (λ i. hit i c) slots ≤ 1 = λ c _. at_most_one f slots c apart in
    let a = tally_le (λ i. min (f i) 1) (λ i. tally (hit i) most) slots row in
    let b = tally_swap hit slots most in
    let d = tally_le (λ c. tally (λ i. hit i c) slots) (λ c. 1) most column in
    let e = tally_ones most in
    omega arith
  where
    at_most_one : (f : ℕ → ℕ) (n c : ℕ) → ((i j : ℕ) → i < n → j < n → 0 < f i → f i ≡ f j → i ≡ j)
        → tally (λ i. if f i == c + 1 then 1 else 0) n ≤ 1
    at_most_one f zero c apart = omega arith
    at_most_one f (suc n) c apart =
        dite (ℕ_discrete (f n) (c + 1))
        (λ e.
        let y = one_if (f n) (c + 1) e in
        let z = tally_none (λ i. if f i == c + 1 then 1 else 0) n
        (λ i lt. none_if (f i) (c + 1)
        (λ k. let same = apart i n (omega arith) (omega arith) (omega arith) (k ∙ sym e) in omega arith)) in
        omega arith)
        (λ ne.
        let y = none_if (f n) (c + 1) ne in
        let t = at_most_one f n c (λ i j ilt jlt. apart i j (omega arith) (omega arith)) in
        omega arith)

-- different numbers below `most` are at most so many
pub different_below : (g : ℕ → ℕ) (count most : ℕ) → ((i : ℕ) → i < count → g i < most)
    → ((i j : ℕ) → i < count → j < count → g i ≡ g j → i ≡ j) → count ≤ most
different_below g count most below apart =
    let f : ℕ → ℕ = λ i. g i + 1 in
    let a = told_apart f count most (λ i lt. let b = below i lt in omega arith)
    (λ i j ilt jlt some same. apart i j ilt jlt (let e : g i + 1 ≡ g j + 1 = same in omega arith)) in
    let b = tally_le (λ i. 1) (λ i. min (f i) 1) count (λ i lt. omega arith) in
    let d = tally_ones count in
    omega arith

-- different positions at each of which at least 1 is counted: they are at most the sum
pub reached_apart : (p f : ℕ → ℕ) (count slots : ℕ) → ((k : ℕ) → k < count → p k < slots)
    → ((k : ℕ) → k < count → 1 ≤ f (p k)) → ((i j : ℕ) → i < count → j < count → p i ≡ p j → i ≡ j)
    → count ≤ tally f slots
reached_apart p f count slots below some apart =
    let hit : ℕ → ℕ → ℕ = λ k i. if p k == i then 1 else 0 in
    let row = tally_le (λ k. 1) (λ k. tally (hit k) slots) count
    (λ k low.
    let one = one_if (p k) (p k) refl in
    let t = tally_at (hit k) (p k) slots (below k low) in
    omega (arith, one, t)) in
    let swap = tally_swap hit count slots in
    let column = tally_le (λ i. tally (λ k. hit k i) count) f slots (λ i lt. at_most p f count i some apart) in
    let ones = tally_ones count in
    omega (arith, row, swap, column, ones)
  where
    at_most : (p f : ℕ → ℕ) (n i : ℕ) → ((k : ℕ) → k < n → 1 ≤ f (p k))
        → ((a b : ℕ) → a < n → b < n → p a ≡ p b → a ≡ b) → tally (λ k. if p k == i then 1 else 0) n ≤ f i
    at_most p f zero i some apart = omega arith
    at_most p f (suc n) i some apart =
        dite (ℕ_discrete (p n) i)
        (λ e.
        let y = one_if (p n) i e in
        let z = tally_none (λ k. if p k == i then 1 else 0) n
        (λ k lt. none_if (p k) i (λ same. let equal = apart k n (omega arith) (omega arith) (same ∙ sym e) in omega
        (arith, equal, lt))) in
        let least = some n (omega arith) in
        let at = ap f e in
        omega (arith, y, z, least, at))
        (λ ne.
        let y = none_if (p n) i ne in
        let t = at_most p f n i (λ k lt. some k (omega arith)) (λ a b alt blt. apart a b (omega arith) (omega arith)) in
        omega (arith, y, t))
