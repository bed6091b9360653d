use Rattle.adp_model.proofs.WellFormedParts.{HasFewArguments-formed}
use Rattle.adp_model.proofs.RanksApart.{ranks_apart}
use Rattle.adp_model.proofs.laws.splits.ranks_tell_splits_apart.Goals as goal

pub returns : goal.returns
returns c =
    λ p formed cell turns ordered three low alternative cuts others viable viable' same.
    ranks_apart p cell turns ordered three low alternative cuts others
    (HasFewArguments-formed p.grammar formed cell.rule alternative) viable viable' same
