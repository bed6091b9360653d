-- A list has a cell or not.
use Rattle.std.specs.Prelude.{◌≡◌, zero, suc, ◌<◌, ◌⊎◌, List, [], ◌∷◌, Contains}
use Rattle.std.proofs.Common.{inl, inr, ap, arith}
use mathlib.Core.Logic.{dite}
use native.Mathlib.Decide.{ℕ_discrete}
use Rattle.adp_model.specs.declared.cell.Cell.{Cell}

pub cell_or_other : (a b : Cell) → (a ≡ b) ⊎ (a ≡ b → ⊥)
cell_or_other a b =
    dite (ℕ_discrete a.rule b.rule)
    (λ rule. dite (ℕ_discrete a.from b.from)
    (λ from. dite (ℕ_discrete a.to b.to) (λ to. inl (λ i. record { rule = rule i; from = from i; to = to i }))
    (λ other. inr (λ e. other (ap (λ (c : Cell). c.to) e))))
    (λ other. inr (λ e. other (ap (λ (c : Cell). c.from) e))))
    (λ other. inr (λ e. other (ap (λ (c : Cell). c.rule) e)))

pub has_or_not : (cells : List Cell) (cell : Cell) → Contains cells cell ⊎ (Contains cells cell → ⊥)
has_or_not [] cell = inr (λ h. let low : h.0 < 0 = h.1 in absurd (omega arith))
has_or_not (first ∷ others) cell = go (cell_or_other first cell) (has_or_not others cell)
  where
    only : (first ≡ cell → ⊥) → (Contains others cell → ⊥) → Contains (first ∷ others) cell → ⊥
    only not_first not_others (zero, inside, here) = not_first here
    only not_first not_others (suc k, inside, here) = not_others (k, omega arith, here)

    go : (first ≡ cell) ⊎ (first ≡ cell → ⊥) → Contains others cell ⊎ (Contains others cell → ⊥)
        → Contains (first ∷ others) cell ⊎ (Contains (first ∷ others) cell → ⊥)
    go (inl here) rest = inl (0, omega arith, here)
    go (inr not_first) (inl (k, inside, here)) = inl (suc k, omega arith, here)
    go (inr not_first) (inr not_others) = inr (only not_first not_others)
