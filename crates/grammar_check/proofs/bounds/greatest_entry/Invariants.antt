use Rattle.std.proofs.Common.{◌≡◌}
use Rattle.grammar_check.specs.Tables.{entry}
use Rattle.grammar_check.specs.Plans.{greatest_from}
use Rattle.grammar_check.proofs.bounds.greatest_entry.Given as goal

abbrev pub invariant-loop-row : goal.invariant-loop-row
invariant-loop-row l = l.greatest ≡ greatest_from (λ row. entry l.table row l.column) 0 l.row
