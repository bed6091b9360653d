use Rattle.std.proofs.Common.{◌≡◌, ◌++◌, take}
use Rattle.std.specs.List.{flat_map}
use Rattle.adp_model.specs.TreeText.{escaped}
use Rattle.adp_model.proofs.output.push_quoted.Given as goal

abbrev pub invariant-loop-letter : goal.invariant-loop-letter
invariant-loop-letter l =
    l.out.items ≡ l.initial.out.items ++ flat_map escaped (take l.letter-index l.letters)
