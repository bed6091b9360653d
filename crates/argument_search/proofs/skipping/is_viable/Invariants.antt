use Rattle.std.specs.Prelude.{ℕ, ◌<◌, ◌∷◌, slice_index, slice_index_or}
use Rattle.adp_model.specs.declared.grammar.Arg.TheVariants.{Rule}
use Rattle.adp_model.specs.Splits.{FitsSpan, ends_by}
use Rattle.viable_splits.specs.Placing.{on_span}
use Rattle.argument_search.proofs.skipping.is_viable.Given as goal

abbrev pub invariant-loop-number : goal.invariant-loop-number
invariant-loop-number l = record {
  fit : (k : ℕ) → l.line.first < k → k < l.number → FitsSpan l.problem (on_span (slice_index_or l.arguments k (Rule 0))
      (slice_index (l.cell.from ∷ ends_by l.cell l.fn.cuts) k) (slice_index (ends_by l.cell l.fn.cuts) k));
}
