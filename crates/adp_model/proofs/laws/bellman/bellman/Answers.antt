use Rattle.adp_model.proofs.Checked.{Bellman-checked, Bellman-admissible}
use Rattle.adp_model.proofs.laws.bellman.bellman.Goals as goal

pub returns-clause-checked : goal.returns-clause-checked
returns-clause-checked c = Bellman-checked

pub returns-clause-admissible : goal.returns-clause-admissible
returns-clause-admissible c = Bellman-admissible
