use Rattle.nested_jobs.proofs.LastRules.{hidden_are_nested}
use Rattle.nested_jobs.proofs.laws.hidden_rules_are_nested_alternatives.Goals as goal

pub returns : goal.returns
returns c = hidden_are_nested
