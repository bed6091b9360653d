use Rattle.faultless_grammars.proofs.Limits.{demanded_count}
use Rattle.faultless_grammars.proofs.laws.demanded_cells_have_a_number.Goals as goal

pub returns : goal.returns
returns c p formed = demanded_count p (c.demanded_cells_are_counted.ensures p formed)
