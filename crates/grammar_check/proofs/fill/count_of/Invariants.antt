use Rattle.std.proofs.Common.{ℕ, ◌<◌, slice_index}
use Rattle.grammar_check.proofs.fill.count_of.Given as goal

-- the ranks so far are below it
abbrev pub invariant-loop-rank : goal.invariant-loop-rank
invariant-loop-rank l = (rule : ℕ) → rule < l.rank-index → slice_index l.ranks rule < l.count
