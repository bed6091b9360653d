use Rattle.std.proofs.Common.{refl, rules}
use Rattle.score_numbers.proofs.worthless.+are_worthless.Goals as goal

pub returns-in_default : goal.returns-in_default
returns-in_default t c = (search rules, λ worthless. refl)
