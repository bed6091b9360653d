use Rattle.std.proofs.Common.{drop}
use Rattle.std.specs.List.{AllByRecursion}
use Rattle.split_lines.specs.Laid.{IsFixed}
use Rattle.split_lines.proofs.kept_rules.last_open.Given as goal

-- those so far are fixed
abbrev pub invariant-loop-number : goal.invariant-loop-number
invariant-loop-number l = AllByRecursion IsFixed (drop l.number l.arguments)
