use Rattle.split_lines.specs.Found.{AreFoundIn, HasNowhere}
use Rattle.split_lines.proofs.found.Found.new.Given as goal

-- the middles so far
abbrev pub invariant-loop-middle : goal.invariant-loop-middle
invariant-loop-middle l = record {
  nowhere_is : HasNowhere l.tables l.lists.items;
  found_are : AreFoundIn l.tables l.middles l.middle-index l.lists.items l.numbers.items;
}
