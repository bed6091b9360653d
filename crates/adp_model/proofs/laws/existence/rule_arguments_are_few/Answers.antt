use Rattle.adp_model.proofs.FewArguments.{few_arguments}
use Rattle.adp_model.proofs.laws.existence.rule_arguments_are_few.Goals as goal

pub returns : goal.returns
returns c = λ p h. few_arguments p h.checked.well_formed h.limits.letters
