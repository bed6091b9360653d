use Rattle.std.proofs.Common.{refl}
use Rattle.big_problems.proofs.laws.pairs_are_faultless.Goals as goal
use Rattle.big_problems.proofs.PairsChecked.{faultless}
use Rattle.big_problems.proofs.PairsSpelled.{spelled}

pub returns-clause-well_formed : goal.returns-clause-well_formed
returns-clause-well_formed c = refl

pub returns-clause-faultless : goal.returns-clause-faultless
returns-clause-faultless c = faultless

pub returns-clause-spelled : goal.returns-clause-spelled
returns-clause-spelled c = λ job grammar words. spelled job.version job.grammar job.words job.of_version grammar words
