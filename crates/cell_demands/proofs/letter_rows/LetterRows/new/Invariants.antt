use Rattle.std.specs.List.{AllByRecursion}
use Rattle.cell_demands.specs.LetterRows.{IsLetterRow}
use Rattle.cell_demands.proofs.letter_rows.LetterRows.new.Given as goal

abbrev pub invariant-loop-rule : goal.invariant-loop-rule
invariant-loop-rule l = AllByRecursion (IsLetterRow l.problem.word) l.rows.items

abbrev pub invariant-loop-alternative : goal.invariant-loop-alternative
invariant-loop-alternative l = AllByRecursion (IsLetterRow l.problem.word) l.rows.items

abbrev pub invariant-loop-argument : goal.invariant-loop-argument
invariant-loop-argument l = AllByRecursion (IsLetterRow l.problem.word) l.rows.items
