use Rattle.term_values.proofs.Lowerings.{value_lowered}
use Rattle.term_values.proofs.lowering.LinearForm.value.Goals as goal

pub returns : goal.returns
returns c = value_lowered c.args.place c.requires
