use Rattle.std.proofs.Common.{◌≡◌, length, map}
use Rattle.score_rows.specs.Numbers.{AreDead}
use Rattle.score_rows.proofs.totals.Totals.new.Given as goal

abbrev pub invariant-loop : goal.invariant-loop
invariant-loop g l = record {
  long : length l.numbers.items ≡ l.counter;
  dead : AreDead g.N.RowNumber.width (map g.N.RowNumber.value l.numbers.items);
}
