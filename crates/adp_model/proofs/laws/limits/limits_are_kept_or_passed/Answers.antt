use Rattle.adp_model.proofs.LimitsKept.{kept_not_passed, one_fault}
use Rattle.adp_model.proofs.laws.limits.limits_are_kept_or_passed.Goals as goal

pub returns-clause-kept : goal.returns-clause-kept
returns-clause-kept c = kept_not_passed

pub returns-clause-one : goal.returns-clause-one
returns-clause-one c = one_fault
