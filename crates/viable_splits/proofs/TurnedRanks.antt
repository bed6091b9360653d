-- Ranks of positions on both sides of where a turned boundary begins.
use Rattle.std.proofs.Common.{◌≡◌, ℕ, ◌+◌, ◌-◌, ◌*◌, ◌<◌, ◌≤◌, ◌%◌, inl, inr, ap, ◌∙◌, arith}
use Rattle.std.proofs.Math.Nat.{mod-eq_of_lt}
use Rattle.std.proofs.Math.Arith.{digits_mod}
use Rattle.std.proofs.lemmas.Bool.{cases_lt}
use Rattle.adp_model.specs.declared.cell.Cell.{Cell}
use Rattle.adp_model.specs.Walk.{rank_of}

-- a position before the turn comes behind all from the turn on
pub rank_before : (cell : Cell) (turn x : ℕ) → turn ≤ cell.to - cell.from → cell.from ≤ x → x < cell.from + turn → rank_of cell turn x ≡ x - cell.from + (cell.to + 1 - (cell.from + turn))
rank_before cell turn x turned after before =
    let small : x - cell.from + (cell.to - cell.from + 1) - turn < cell.to - cell.from + 1 = omega arith in
    mod-eq_of_lt small ∙ omega arith

-- a position from the turn on
pub rank_after : (cell : Cell) (turn x : ℕ) → turn ≤ cell.to - cell.from → x ≤ cell.to → cell.from + turn ≤ x → rank_of cell turn x ≡ x - (cell.from + turn)
rank_after cell turn x turned within after =
    let sum : x - cell.from + (cell.to - cell.from + 1) - turn ≡ 1 * (cell.to - cell.from + 1) + (x - (cell.from + turn)) = omega arith in
    ap (λ n. n % (cell.to - cell.from + 1)) sum ∙ digits_mod 1 (omega arith)

-- positions of one rank are one
pub rank_same : (cell : Cell) (turn x y : ℕ) → turn ≤ cell.to - cell.from → cell.from ≤ x → x ≤ cell.to → cell.from ≤ y → y ≤ cell.to → rank_of cell turn x ≡ rank_of cell turn y → x ≡ y
rank_same cell turn x y turned x_from x_to y_from y_to e =
    elim (cases_lt x (cell.from + turn)) [
      | inl a ↦ elim (cases_lt y (cell.from + turn)) [
        | inl b ↦ omega (arith, rank_before cell turn x turned x_from a, rank_before cell turn y turned y_from b)
        | inr b ↦ omega (arith, rank_before cell turn x turned x_from a, rank_after cell turn y turned y_to b)
      ]
      | inr a ↦ elim (cases_lt y (cell.from + turn)) [
        | inl b ↦ omega (arith, rank_after cell turn x turned x_to a, rank_before cell turn y turned y_from b)
        | inr b ↦ omega (arith, rank_after cell turn x turned x_to a, rank_after cell turn y turned y_to b)
      ]
    ]
