-- What the totals of arguments are found from.
use Rattle.std.specs.Prelude.{◌≡◌, ℤ}
use Rattle.score_numbers.specs.Packing.{IsProper, Width}
use Rattle.row_scores.specs.RowNumbers.{IsInRow}
use Rattle.row_scores.specs.declared.steps.Known.{Known}

-- all are of one problem, and the table has numbers of the width alone
pub record AreKnown {N : Type 0} (width : Width) (value : N → ℤ) (known : Known N) : Type 0 where
  pub same_layout : known.layout.now ≡ known.lines.now
  pub same_problem : known.table.now.problem ≡ known.lines.now
  pub proper : (rule from to : _) (number : ℤ) → IsInRow value known.table.now rule from to number
      → IsProper width number
