-- A number for each cell that falls from a cell to its demanded children: length first, then rank.
use Rattle.std.specs.Prelude.{ℕ, ◌+◌, ◌-◌, ◌*◌, List, length, slice_index}
use Rattle.adp_model.specs.declared.cell.Cell.{Cell}
use Rattle.adp_model.specs.PosedProblem.{PosedProblem}

-- with ranks for its rules, below the number of rules, the height of a cell
abbrev pub height_of : PosedProblem → List ℕ → Cell → ℕ
height_of p ranks cell = (cell.to - cell.from) * length p.grammar.rules + slice_index ranks cell.rule

-- all heights of demanded cells are below this number: one for each length from 0 on and each rule
abbrev pub heights_end : PosedProblem → ℕ
heights_end p = (length p.word + 1) * length p.grammar.rules
