use Rattle.std.proofs.Common.{◌≡◌, map, take}
use Rattle.yield_sizes.specs.Relations.{row_through}
use Rattle.yield_sizes.proofs.relation.rows_through.Given as goal

abbrev pub invariant-loop-row : goal.invariant-loop-row
invariant-loop-row l = l.new.items ≡ map (λ row. row_through row l.beyond l.between) (take l.row-index l.rows)
