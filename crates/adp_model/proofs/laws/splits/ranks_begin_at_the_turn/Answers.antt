use Rattle.adp_model.proofs.TurnedRanks.{rank_after, rank_before, rank_same}
use Rattle.adp_model.proofs.laws.splits.ranks_begin_at_the_turn.Goals as goal

pub returns-clause-behind : goal.returns-clause-behind
returns-clause-behind c = rank_after

pub returns-clause-before : goal.returns-clause-before
returns-clause-before c = rank_before

pub returns-clause-apart : goal.returns-clause-apart
returns-clause-apart c = rank_same
