use Rattle.adp_model.specs.Parts.{arguments_of}
use Rattle.nested_trees.proofs.Patterned.{nested_there, productive-checked, patterns_one, patterns_endless, none_hidden}
use Rattle.nested_trees.proofs.laws.alternatives_have_one_pattern.Goals as goal

pub returns-clause-there : goal.returns-clause-there
returns-clause-there c = nested_there

pub returns-clause-checked : goal.returns-clause-checked
returns-clause-checked c p least greatest ranks checked hidden alone =
    nested_there p hidden alone (productive-checked p.grammar p.algebra least greatest ranks checked hidden)

pub returns-clause-one : goal.returns-clause-one
returns-clause-one c grammar hidden rule alternative = patterns_one grammar hidden (arguments_of grammar rule alternative)

pub returns-clause-endless : goal.returns-clause-endless
returns-clause-endless c = patterns_endless

pub returns-clause-none_hidden : goal.returns-clause-none_hidden
returns-clause-none_hidden c = none_hidden
