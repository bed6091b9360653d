use Rattle.faultless_grammars.proofs.Faults.{judged}
use Rattle.faultless_grammars.proofs.laws.grammars_are_faulty_or_sound.Goals as goal

pub returns : goal.returns
returns c = judged
