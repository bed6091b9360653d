use Rattle.verdicts.proofs.OneVerdict.{command_unique, some_workers, few_workers, seed_in_range, size_in_range, trees_in_range, no_second, no_trees}
use Rattle.verdicts.proofs.laws.command_is_unique.Goals as goal

pub returns-clause-command : goal.returns-clause-command
returns-clause-command c = command_unique

pub returns-clause-some_workers : goal.returns-clause-some_workers
returns-clause-some_workers c = some_workers

pub returns-clause-few_workers : goal.returns-clause-few_workers
returns-clause-few_workers c = few_workers

pub returns-clause-seed : goal.returns-clause-seed
returns-clause-seed c = seed_in_range

pub returns-clause-size : goal.returns-clause-size
returns-clause-size c = size_in_range

pub returns-clause-second : goal.returns-clause-second
returns-clause-second c = no_second

pub returns-clause-few_trees : goal.returns-clause-few_trees
returns-clause-few_trees c = trees_in_range

pub returns-clause-no_trees : goal.returns-clause-no_trees
returns-clause-no_trees c = no_trees
