-- Places in rows that stand one behind the other differ where their rows differ.
use Rattle.std.proofs.Common.{◌≡◌, ℕ, suc, ◌+◌, ◌*◌, ◌<◌, ◌≤◌, ◌⊎◌, inl, inr, arith}
use Rattle.std.proofs.Math.Nat.{mul-le-mul_left}

below : (width row other column at : ℕ) → at < width → other < row → other * width + at < row * width + column
below width row other column at inside less =
    let whole : width * suc other ≤ width * row = mul-le-mul_left width less in
    grind arith

apart_cases : (row other : ℕ) → (other ≡ row → ⊥) → (other < row) ⊎ (row < other)
apart_cases row other differ = let d = differ in grind arith

pub rows_apart : (width row other column at : ℕ) → column < width → at < width → (other ≡ row → ⊥) → other * width + at ≡ row * width + column → ⊥
rows_apart width row other column at inside inside' differ same = by (apart_cases row other differ)
  where
    by : (other < row) ⊎ (row < other) → ⊥
    by (inl less) = omega (arith, below width row other column at inside' less)
    by (inr more) = omega (arith, below width other row at column inside more)
