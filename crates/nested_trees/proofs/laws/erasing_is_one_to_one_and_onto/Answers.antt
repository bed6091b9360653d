use Rattle.nested_trees.proofs.Erasing.{derived-erased}
use Rattle.nested_trees.proofs.Restoring.{erased-injective, restored-erased}
use Rattle.nested_trees.proofs.Preferring.{onto-erased}
use Rattle.nested_trees.proofs.laws.erasing_is_one_to_one_and_onto.Goals as goal

pub returns-clause-derived : goal.returns-clause-derived
returns-clause-derived c = derived-erased

pub returns-clause-one : goal.returns-clause-one
returns-clause-one c = erased-injective

pub returns-clause-onto : goal.returns-clause-onto
returns-clause-onto c = onto-erased

pub returns-clause-restored : goal.returns-clause-restored
returns-clause-restored c = restored-erased
