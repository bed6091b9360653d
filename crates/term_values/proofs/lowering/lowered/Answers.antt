use Rattle.term_values.proofs.NamedValues.{few_values}
use Rattle.term_values.proofs.lowering.lowered.Goals as goal

pub lowered_wide-requires : goal.lowered_wide-requires
lowered_wide-requires c = rw c.root.ensures (few_values c.in-Wide.term (rw c.in-Wide.is at c.requires))
