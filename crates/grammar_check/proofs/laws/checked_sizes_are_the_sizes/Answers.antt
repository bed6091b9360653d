use Rattle.grammar_check.proofs.CheckedSizes.{sizes_are}
use Rattle.grammar_check.proofs.laws.checked_sizes_are_the_sizes.Goals as goal

pub returns : goal.returns
returns c = sizes_are
