use Rattle.std.proofs.Common.{◌≡◌, ℕ, ◌<◌, length, slice_index}
use Rattle.grammar_check.specs.Tables.{entry}
use Rattle.grammar_check.proofs.bounds.node_row.Given as goal

abbrev pub invariant-loop-len : goal.invariant-loop-len
invariant-loop-len l = record {
  each : length l.row.items ≡ l.len;
  entries : (at : ℕ) → at < l.len → slice_index l.row.items at ≡ entry l.filled.table l.axiom at;
}
