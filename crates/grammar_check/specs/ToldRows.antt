-- Rows of bounds of a checked grammar's words, by their length.
use Rattle.std.specs.Prelude.{◌≡◌, ℕ, ◌+◌, ◌≤◌, length, slice_index}
use Rattle.grammar_check.specs.declared.bounds.BoundRows.{BoundRows}
use Rattle.grammar_check.specs.CheckedGrammar.{CheckedGrammar}
use Rattle.grammar_check.specs.ToldBounds.{IsToldScoreBound, IsToldNodeBound}

-- the rows tell the bounds of words of each length up to their greatest
pub record AreRowsOf (checked : CheckedGrammar) (rows : BoundRows) : Type 0 where
  pub scores_each : length rows.scores ≡ rows.longest + 1
  pub nodes_each : length rows.nodes ≡ rows.longest + 1
  pub scores_are : (len : ℕ) → len ≤ rows.longest
      → IsToldScoreBound checked.grammar checked.algebra len (slice_index rows.scores len)
  pub nodes_are : (len : ℕ) → len ≤ rows.longest → IsToldNodeBound checked.grammar len (slice_index rows.nodes len)
