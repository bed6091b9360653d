use Rattle.adp_model.proofs.DemandDecided.{number_exists}
use Rattle.adp_model.proofs.RuleArguments.{rule_arguments_exist}
use Rattle.adp_model.proofs.laws.existence.rule_arguments_are_listed.Goals as goal

pub returns : goal.returns
returns c =
    λ p h.
    let counted = h.limits.cells in
    let found = number_exists p h.least h.greatest h.ranks h.checked h.limits.letters counted.1.0 counted.1.1 in
    rule_arguments_exist p h found.1.0 found.1.1
