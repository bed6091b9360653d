use Rattle.score_numbers.proofs.FirstFound.{stands_before}
use Rattle.score_numbers.proofs.laws.lesser_positions_stand_before.Goals as goal

pub returns : goal.returns
returns c = stands_before
