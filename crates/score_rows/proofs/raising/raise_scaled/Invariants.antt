use Rattle.std.proofs.Common.{map, ◌+ℤ◌, ◌*ℤ◌}
use Rattle.score_numbers.specs.Turned.{turned}
use Rattle.score_rows.proofs.RaisedRows.{AreRaisedBefore}
use Rattle.score_rows.proofs.RaisedSums.{ComesTo, IsLowAt, from_at}
use Rattle.score_rows.proofs.raising.raise_scaled.Given as goal

-- the numbers before this place are raised
abbrev pub invariant-loop-k : goal.invariant-loop-k
invariant-loop-k g l =
    let value = g.N.RowNumber.value in
    let width = g.N.RowNumber.width in
    AreRaisedBefore width (from_at l.fn.at) (ComesTo width (λ other. (l.fn.factor *ℤ turned l.fn.goal other) +ℤ value l.fn.add) (map value l.fn.others))
    (IsLowAt width (λ other. (l.fn.factor *ℤ turned l.fn.goal other) +ℤ value l.fn.add) (map value l.fn.others) (value l.fn.add))
    (map value l.fn.row) (map value l.row) l.k
