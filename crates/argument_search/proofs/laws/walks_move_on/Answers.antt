use Rattle.argument_search.proofs.VisitOrder.{behind_moved, not_behind_itself}
use Rattle.argument_search.proofs.laws.walks_move_on.Goals as goal

pub returns-clause-before : goal.returns-clause-before
returns-clause-before c = behind_moved

pub returns-clause-itself : goal.returns-clause-itself
returns-clause-itself c = not_behind_itself
