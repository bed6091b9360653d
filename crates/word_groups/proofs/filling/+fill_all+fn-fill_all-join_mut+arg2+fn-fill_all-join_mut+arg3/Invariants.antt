use Rattle.word_groups.proofs.filling.+fill_all+fn-fill_all-join_mut+arg2+fn-fill_all-join_mut+arg3.Given as goal

abbrev pub decreases-fill_all : goal.decreases-fill_all
decreases-fill_all g l = l.threads

abbrev pub decreases-join_mut+arg2 : goal.decreases-join_mut+arg2
decreases-join_mut+arg2 g l = l.low

abbrev pub decreases-join_mut+arg3 : goal.decreases-join_mut+arg3
decreases-join_mut+arg3 g l = l.high
