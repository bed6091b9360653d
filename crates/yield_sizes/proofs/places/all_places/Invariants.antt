use Rattle.yield_sizes.proofs.PlaceLists.{ArePlacesBelow}
use Rattle.yield_sizes.proofs.places.all_places.Given as goal

abbrev pub invariant-loop-alternative : goal.invariant-loop-alternative
invariant-loop-alternative l = ArePlacesBelow l.grammar l.places.items l.rule l.alternative

abbrev pub invariant-loop-rule : goal.invariant-loop-rule
invariant-loop-rule l = ArePlacesBelow l.grammar l.places.items l.rule 0
