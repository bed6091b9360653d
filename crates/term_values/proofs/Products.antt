-- Products of integers.
use Rattle.std.proofs.Common.{◌≡◌, ◌*◌, ℤ, ◌+ℤ◌, ◌*ℤ◌, ap, arith}
use Rattle.std.proofs.lemmas.Int.{ints}
use borrow.Author.Differences.{up, down, sum_is_lem, product_is}

-- a sum times a number
pub sum_times : (a b k : ℤ) → (a +ℤ b) *ℤ k ≡ (a *ℤ k) +ℤ (b *ℤ k)
sum_times a b k =
    let positive = ap (λ n. n * up k) (sum_is_lem a b) in
    let negative = ap (λ n. n * down k) (sum_is_lem a b) in
    omega (arith, ints, positive, negative)

pub times_sum : (k a b : ℤ) → k *ℤ (a +ℤ b) ≡ (k *ℤ a) +ℤ (k *ℤ b)
times_sum k a b =
    let positive = ap (λ n. n * up k) (sum_is_lem a b) in
    let negative = ap (λ n. n * down k) (sum_is_lem a b) in
    omega (arith, ints, positive, negative)

pub times_regroup : (a b c : ℤ) → (a *ℤ b) *ℤ c ≡ a *ℤ (b *ℤ c)
times_regroup a b c =
    let first = ap (λ n. n * up c) (product_is a b).0 in
    let second = ap (λ n. n * down c) (product_is a b).0 in
    let third = ap (λ n. n * up c) (product_is a b).1 in
    let fourth = ap (λ n. n * down c) (product_is a b).1 in
    let fifth = ap (λ n. up a * n) (product_is b c).0 in
    let sixth = ap (λ n. down a * n) (product_is b c).0 in
    let seventh = ap (λ n. up a * n) (product_is b c).1 in
    let eighth = ap (λ n. down a * n) (product_is b c).1 in
    omega (arith, ints, first, second, third, fourth, fifth, sixth, seventh, eighth)
