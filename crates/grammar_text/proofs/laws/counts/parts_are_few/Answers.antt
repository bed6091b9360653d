use Rattle.grammar_text.proofs.PartCounts.{parts_few}
use Rattle.grammar_text.proofs.laws.counts.parts_are_few.Goals as goal

pub returns : goal.returns
returns c = parts_few
