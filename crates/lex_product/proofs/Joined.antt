-- Two numbers in one: how they add up, how they are compared, and how they come apart again.
use Rattle.std.proofs.Common.{◌≡◌, ℕ, zero, suc, ◌+◌, ◌-◌, ◌*◌, ◌<◌, ◌≤◌, ℤ, pos, negsuc, ◌+ℤ◌, ◌*ℤ◌, ◌<ℤ◌, ◌≤ℤ◌, nat_abs, Bool, true, false, ◌⊎◌, inl, inr, refl, sym, ap, ◌∙◌, arith, mul-le-mul_left}
use Rattle.std.proofs.lemmas.Int.{ints}
use Rattle.std.proofs.Math.IntN.{neg_ℤ, suc_ℤ, pred_ℤ, suc_ℤ-*ℤ, pred_ℤ-*ℤ, zero-*ℤ, *ℤ_comm, ℤ_ind, negsuc-*ℤ-pos}
use Rattle.std.proofs.lemmas.Nat.{div-mul-add}
use Rattle.std.specs.Int.{int_div_euclid}
use Rattle.lex_product.specs.CompiledTerms.{joined, IsJoinedFrom}

-- the part that is added to the whole
abbrev pub part_of : Bool → ℤ → ℤ
part_of true b = b
part_of false b = neg_ℤ b

pub nat_abs-part_of : (same : Bool) (b : ℤ) → nat_abs (part_of same b) ≡ nat_abs b
nat_abs-part_of true b = refl
nat_abs-part_of false b = omega (arith, ints)

pub joined-parts : (m : ℕ) (same : Bool) (pair : ℤ × ℤ) → joined m same pair ≡ (pair.0 *ℤ pos m) +ℤ part_of same pair.1
joined-parts m true pair = refl
joined-parts m false pair = omega (arith, ints)

-- ---- products

pub times_step : (a b : ℤ) (m : ℕ) → a <ℤ b → ((a *ℤ pos m) +ℤ pos m) ≤ℤ (b *ℤ pos m)
times_step (pos a) (pos b) m h = let k : m * suc a ≤ m * b = mul-le-mul_left m (omega (arith, ints)) in omega (arith, ints)
times_step (pos a) (negsuc b) m h = absurd h.lt
times_step (negsuc a) (pos b) m h = omega (arith, ints, negsuc-*ℤ-pos a m)
times_step (negsuc a) (negsuc b) m h = let k : m * suc (suc b) ≤ m * suc a = mul-le-mul_left m (omega (arith, ints)) in omega (arith, ints, negsuc-*ℤ-pos a m, negsuc-*ℤ-pos b m)

one_more : (x k : ℤ) → (x +ℤ pos 1) *ℤ k ≡ (x *ℤ k) +ℤ k
one_more x k = ap (λ z. z *ℤ k) (the_next x) ∙ suc_ℤ-*ℤ x k
  where
    the_next : (z : ℤ) → z +ℤ pos 1 ≡ suc_ℤ z
    the_next (pos n) = omega (arith, ints)
    the_next (negsuc zero) = refl
    the_next (negsuc (suc n)) = omega (arith, ints)

one_less : (x k : ℤ) → (x +ℤ neg_ℤ (pos 1)) *ℤ k ≡ (x *ℤ k) +ℤ neg_ℤ k
one_less x k = ap (λ z. z *ℤ k) (the_last x) ∙ pred_ℤ-*ℤ x k
  where
    the_last : (z : ℤ) → z +ℤ neg_ℤ (pos 1) ≡ pred_ℤ z
    the_last (pos zero) = refl
    the_last (pos (suc n)) = omega (arith, ints)
    the_last (negsuc n) = omega (arith, ints)

pub doubled : (s : ℤ) → pos 2 *ℤ s ≡ s +ℤ s
doubled (pos n) = omega (arith, ints)
doubled (negsuc n) = omega (arith, ints)

-- a sum times a number
pub sum_times : (a b k : ℤ) → (a +ℤ b) *ℤ k ≡ (a *ℤ k) +ℤ (b *ℤ k)
sum_times a b k =
    ℤ_ind (λ x. (x +ℤ b) *ℤ k ≡ (x *ℤ k) +ℤ (b *ℤ k))
    (let e = ap (λ z. z *ℤ k) (let h : pos 0 +ℤ b ≡ b = omega (arith, ints) in h) in let z = zero-*ℤ k in omega (arith, ints, e, z))
    (λ n h. let e = ap (λ z. z *ℤ k) (let r : (pos n +ℤ pos 1) +ℤ b ≡ (pos n +ℤ b) +ℤ pos 1 = omega (arith, ints) in r) in
    omega (arith, ints, e, h, one_more (pos n +ℤ b) k, one_more (pos n) k))
    (λ n h. let e = ap (λ z. z *ℤ k) (let r : (neg_ℤ (pos n) +ℤ neg_ℤ (pos 1)) +ℤ b ≡ (neg_ℤ (pos n) +ℤ b) +ℤ neg_ℤ (pos 1) = omega (arith, ints) in r) in
    omega (arith, ints, e, h, one_less (neg_ℤ (pos n) +ℤ b) k, one_less (neg_ℤ (pos n)) k))
    a

-- the other sign
pub neg_times : (a k : ℤ) → neg_ℤ a *ℤ k ≡ neg_ℤ (a *ℤ k)
neg_times a k =
    let s = sum_times a (neg_ℤ a) k in
    let e = ap (λ z. z *ℤ k) (let h : a +ℤ neg_ℤ a ≡ pos 0 = omega (arith, ints) in h) in
    omega (arith, ints, s, e, zero-*ℤ k)

-- factors change places
pub times_swap : (a m k : ℤ) → (a *ℤ m) *ℤ k ≡ (a *ℤ k) *ℤ m
times_swap a m k =
    ℤ_ind (λ x. (x *ℤ m) *ℤ k ≡ (x *ℤ k) *ℤ m)
    (ap (λ z. z *ℤ k) (zero-*ℤ m) ∙ zero-*ℤ k ∙ sym (zero-*ℤ m) ∙ ap (λ z. z *ℤ m) (sym (zero-*ℤ k)))
    (λ n h. let e = ap (λ z. z *ℤ k) (one_more (pos n) m) in let e' = ap (λ z. z *ℤ m) (one_more (pos n) k) in
    omega (arith, ints, h, e, e', sum_times (pos n *ℤ m) m k, sum_times (pos n *ℤ k) k m, *ℤ_comm m k))
    (λ n h. let e = ap (λ z. z *ℤ k) (one_less (neg_ℤ (pos n)) m) in let e' = ap (λ z. z *ℤ m) (one_less (neg_ℤ (pos n)) k) in
    omega (arith, ints, h, e, e', sum_times (neg_ℤ (pos n) *ℤ m) (neg_ℤ m) k, sum_times (neg_ℤ (pos n) *ℤ k) (neg_ℤ k) m, neg_times m k, neg_times k m, *ℤ_comm m k))
    a

-- ---- sums and products of numbers in one

pub sum_joined : (m : ℕ) (same : Bool) (a b a' b' : ℤ) → joined m same (a, b) +ℤ joined m same (a', b') ≡ joined m same (a +ℤ a', b +ℤ b')
sum_joined m true a b a' b' = omega (arith, ints, sum_times a a' (pos m))
sum_joined m false a b a' b' = omega (arith, ints, sum_times a a' (pos m))

pub times_joined : (m : ℕ) (same : Bool) (a b k : ℤ) → joined m same (a, b) *ℤ k ≡ joined m same (a *ℤ k, b *ℤ k)
times_joined m true a b k = omega (arith, ints, sum_times (a *ℤ pos m) b k, times_swap a (pos m) k)
times_joined m false a b k =
    let e = ap (λ z. z *ℤ k) (joined-parts m false (a, b)) in
    omega (arith, ints, e, sum_times (a *ℤ pos m) (neg_ℤ b) k, neg_times b k, times_swap a (pos m) k)

pub none_joined : (m : ℕ) (same : Bool) → joined m same (pos 0, pos 0) ≡ pos 0
none_joined m true = omega (arith, ints, zero-*ℤ (pos m))
none_joined m false = omega (arith, ints, zero-*ℤ (pos m))

-- ---- order

trichotomy : (a b : ℤ) → (a ≡ b) ⊎ ((a <ℤ b) ⊎ (b <ℤ a))
trichotomy a b = grind (arith, ints)

-- wholes are compared first where the parts are small
pub wholes_less : (m : ℕ) (a c a' c' : ℤ) → nat_abs c + nat_abs c' < m → a <ℤ a' → ((a *ℤ pos m) +ℤ c) <ℤ ((a' *ℤ pos m) +ℤ c')
wholes_less m a c a' c' small less = omega (arith, ints, times_step a a' m less)

pub sums_apart : (m : ℕ) (a c a' c' : ℤ) → nat_abs c + nat_abs c' < m → ((a *ℤ pos m) +ℤ c) ≡ ((a' *ℤ pos m) +ℤ c') → (a ≡ a') × (c ≡ c')
sums_apart m a c a' c' small same = by (trichotomy a a')
  where
    by : (a ≡ a') ⊎ ((a <ℤ a') ⊎ (a' <ℤ a)) → (a ≡ a') × (c ≡ c')
    by (inl one) = let e = ap (λ z. z *ℤ pos m) one in (one, omega (arith, ints, e, same))
    by (inr (inl less)) = absurd (omega (arith, ints, same, times_step a a' m less))
    by (inr (inr greater)) = absurd (omega (arith, ints, same, times_step a' a m greater))

pub sums_less : (m : ℕ) (a c a' c' : ℤ) → nat_abs c + nat_abs c' < m → ((a *ℤ pos m) +ℤ c) <ℤ ((a' *ℤ pos m) +ℤ c') → (a <ℤ a') ⊎ ((a ≡ a') × (c <ℤ c'))
sums_less m a c a' c' small less = by (trichotomy a a')
  where
    by : (a ≡ a') ⊎ ((a <ℤ a') ⊎ (a' <ℤ a)) → (a <ℤ a') ⊎ ((a ≡ a') × (c <ℤ c'))
    by (inl one) = let e = ap (λ z. z *ℤ pos m) one in inr (one, omega (arith, ints, e, less))
    by (inr (inl lower)) = inl lower
    by (inr (inr greater)) = absurd (omega (arith, ints, less, times_step a' a m greater))

pub parts_less : (m : ℕ) (a c a' c' : ℤ) → a ≡ a' → c <ℤ c' → ((a *ℤ pos m) +ℤ c) <ℤ ((a' *ℤ pos m) +ℤ c')
parts_less m a c a' c' one less = let e = ap (λ z. z *ℤ pos m) one in omega (arith, ints, e, less)

-- ---- the pair of a number

quotient_up : (a d t : ℕ) (x : ℤ) → t < d → x ≡ pos (a * d + t) → int_div_euclid x (pos d) ≡ pos a
quotient_up a d t x small is = ap (λ z. int_div_euclid z (pos d)) is ∙ ap pos (div-mul-add a d t small)

quotient_down : (a d t : ℕ) (x : ℤ) → t < d → x ≡ negsuc (a * d + t) → int_div_euclid x (pos d) ≡ negsuc a
quotient_down a d t x small is = ap (λ z. int_div_euclid z (pos d)) is ∙ ap negsuc (div-mul-add a d t small)

-- the nearest whole number of times
pub nearest_whole : (m : ℕ) (s a c : ℤ) → s ≡ (a *ℤ pos m) +ℤ c → 2 * nat_abs c < m → int_div_euclid ((pos 2 *ℤ s) +ℤ pos m) (pos (2 * m)) ≡ a
nearest_whole m s (pos a) c is small =
    let t = nat_abs (pos m +ℤ (c +ℤ c)) in
    let twice : pos 2 *ℤ s ≡ s +ℤ s = doubled s in
    quotient_up a (2 * m) t _ (omega (arith, ints)) (omega (arith, ints, twice))
nearest_whole m s (negsuc a) c is small =
    let t = 2 * m - 1 - nat_abs (pos m +ℤ (c +ℤ c)) in
    let twice : pos 2 *ℤ s ≡ s +ℤ s = doubled s in
    quotient_down a (2 * m) t _ (omega (arith, ints)) (omega (arith, ints, twice, negsuc-*ℤ-pos a m))

-- the whole is no greater than the number
pub whole_low : (m : ℕ) (s a c : ℤ) → s ≡ (a *ℤ pos m) +ℤ c → 2 * nat_abs c < m → (nat_abs a ≤ nat_abs s) × (pos 0 <ℤ a → pos 0 <ℤ s)
whole_low m s (pos zero) c is small = (omega arith, λ h. absurd (omega (arith, ints, h)))
whole_low m s (pos (suc a)) c is small = let k : a * 1 ≤ a * m = mul-le-mul_left a (omega arith) in (omega (arith, ints, is, k), λ h. omega (arith, ints, is, k))
whole_low m s (negsuc a) c is small = let k : a * 1 ≤ a * m = mul-le-mul_left a (omega arith) in (omega (arith, ints, is, k, negsuc-*ℤ-pos a m), λ h. absurd h.lt)

-- what is taken apart: the whole, the part, and how great they are
pub record IsApart (m : ℕ) (same : Bool) (s : ℤ) (pair : ℤ × ℤ) : Type 0 where
  pub is : s ≡ (pair.0 *ℤ pos m) +ℤ part_of same pair.1
  pub some : 0 < m
  pub part : 2 * nat_abs (part_of same pair.1) < m
  pub whole : nat_abs pair.0 ≤ nat_abs s
  pub sign : pos 0 <ℤ pair.0 → pos 0 <ℤ s
  pub nearest : int_div_euclid ((pos 2 *ℤ s) +ℤ pos m) (pos (2 * m)) ≡ pair.0

pub apart : (m : ℕ) (same : Bool) (s : ℤ) (pair : ℤ × ℤ) → IsJoinedFrom m same s pair → IsApart m same s pair
apart m same s pair from =
    let is : s ≡ (pair.0 *ℤ pos m) +ℤ part_of same pair.1 = from.is ∙ joined-parts m same pair in
    let part : 2 * nat_abs (part_of same pair.1) < m = omega (arith, from.small, nat_abs-part_of same pair.1) in
    let low = whole_low m s pair.0 (part_of same pair.1) is part in
    record {
      is = is;
      some = omega arith;
      part = part;
      whole = low.0;
      sign = low.1;
      nearest = nearest_whole m s pair.0 (part_of same pair.1) is part;
    }
