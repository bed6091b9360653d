-- A code stands for one cell.
use Rattle.std.proofs.Common.{◌≡◌, ℕ, ◌-◌, ◌/◌, ◌%◌, ◌<◌, sym, ◌∙◌, arith}
use Rattle.adp_model.specs.declared.cell.Cell.{Cell}
use Rattle.memo_words.specs.CodedCells.{IsCodeOf, cell_of}

pub code_some : (cell : Cell) (code : ℕ) → IsCodeOf cell code → 0 < code
code_some cell code is = let same = is.same in omega arith

pub cell_is : (cell : Cell) (code : ℕ) → IsCodeOf cell code → cell_of code ≡ cell
unfolding cell_of
cell_is cell code is =
    let same = is.same in let f = is.coded.from in let t = is.coded.to in
    let r' : (code - 1) / 16777216 ≡ cell.rule = omega arith in
    let f' : (code - 1) / 4096 % 4096 ≡ cell.from = omega arith in
    let t' : (code - 1) % 4096 ≡ cell.to = omega arith in
    λ i. record { rule = r' i; from = f' i; to = t' i }

pub one_cell : (a b : Cell) (code : ℕ) → IsCodeOf a code → IsCodeOf b code → a ≡ b
one_cell a b code is also = sym (cell_is a code is) ∙ cell_is b code also
