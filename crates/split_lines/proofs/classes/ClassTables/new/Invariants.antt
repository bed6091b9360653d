use Rattle.split_lines.specs.ClassFields.{AreTables}
use Rattle.split_lines.proofs.classes.ClassTables.new.Given as goal

-- the tables so far
abbrev pub invariant-loop-number : goal.invariant-loop-number
invariant-loop-number l = AreTables l.problem l.number l.tables.items
