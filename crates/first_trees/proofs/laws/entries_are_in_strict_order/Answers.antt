use Rattle.first_trees.proofs.EntryOrder.{entry_irreflexive, entry_transitive}
use Rattle.first_trees.proofs.laws.entries_are_in_strict_order.Goals as goal

pub returns-clause-irreflexive : goal.returns-clause-irreflexive
returns-clause-irreflexive c = entry_irreflexive

pub returns-clause-transitive : goal.returns-clause-transitive
returns-clause-transitive c = entry_transitive
