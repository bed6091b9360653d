use Rattle.std.proofs.Common.{take}
use Rattle.std.specs.List.{AllByRecursion}
use Rattle.split_lines.specs.Laid.{IsFixed}
use Rattle.split_lines.proofs.kept.front_length.Given as goal

-- the arguments so far are of fixed length
abbrev pub invariant-loop-number : goal.invariant-loop-number
invariant-loop-number l = AllByRecursion IsFixed (take l.number l.arguments)
