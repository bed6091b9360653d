use Rattle.call_tests.proofs.machines.+by_turns.Given as goal

abbrev pub decreases-by_turns : goal.decreases-by_turns
decreases-by_turns g l = l.count
