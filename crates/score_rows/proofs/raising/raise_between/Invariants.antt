use Rattle.std.proofs.Common.{◌-◌, ◌≤◌, map}
use Rattle.score_rows.proofs.RaisedRows.{AreRaisedBefore}
use Rattle.score_rows.proofs.RaisedSums.{StandsAt, from_at}
use Rattle.score_rows.specs.Raised.{IsAnywhere}
use Rattle.score_rows.proofs.raising.raise_between.Given as goal

-- the numbers before this position are raised
abbrev pub invariant-loop-k : goal.invariant-loop-k
invariant-loop-k g l =
    let value = g.N.RowNumber.value in
    record {
      raised : AreRaisedBefore g.N.RowNumber.width (from_at l.fn.first) (StandsAt l.fn.first (map value l.fn.others)) IsAnywhere (map value l.fn.row) (map value l.row) (l.k - l.fn.first);
      within : l.k ≤ l.fn.past;
    }
