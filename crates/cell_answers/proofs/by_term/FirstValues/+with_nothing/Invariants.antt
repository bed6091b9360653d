use Rattle.cell_answers.proofs.by_term.FirstValues.+with_nothing.Given as goal

abbrev pub decreases-with_nothing : goal.decreases-with_nothing
decreases-with_nothing l = l.more
