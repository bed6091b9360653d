use Rattle.adp_model.proofs.WellFormedParts.{HasFewArguments-formed}
use Rattle.adp_model.proofs.RanksApart.{cuts_within}
use Rattle.adp_model.proofs.laws.splits.viable_cuts_lie_within_the_cell.Goals as goal

pub returns : goal.returns
returns c =
    λ p formed cell alternative cuts ordered viable.
    cuts_within p cell alternative cuts ordered (HasFewArguments-formed p.grammar formed cell.rule alternative) viable
