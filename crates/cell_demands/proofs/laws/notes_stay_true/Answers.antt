use Rattle.cell_demands.proofs.TailSteps.{notes_stay}
use Rattle.cell_demands.proofs.laws.notes_stay_true.Goals as goal

pub returns : goal.returns
returns c = λ p tails old new stay are. notes_stay p old new stay tails are
