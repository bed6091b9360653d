use Rattle.std.proofs.Common.{◌≡◌, map}
use Rattle.std.specs.List.{range_with_len}
use Rattle.yield_sizes.specs.Places.{places_naming}
use Rattle.yield_sizes.proofs.places.naming_rows.Given as goal

abbrev pub invariant-loop-rule : goal.invariant-loop-rule
invariant-loop-rule l = l.rows.items ≡ map (places_naming l.grammar l.places) (range_with_len 0 l.rule)
