use Rattle.nested_trees.proofs.Preferring.{preferred-erased, preferred-onto, none-erased}
use Rattle.nested_trees.proofs.laws.erasing_keeps_preferred_trees.Goals as goal

pub returns-clause-preferred : goal.returns-clause-preferred
returns-clause-preferred c = preferred-erased

pub returns-clause-onto : goal.returns-clause-onto
returns-clause-onto c = preferred-onto

pub returns-clause-none : goal.returns-clause-none
returns-clause-none c = none-erased
