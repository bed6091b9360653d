use Rattle.term_values.proofs.NamedValues.{values_of_term}
use Rattle.term_values.proofs.laws.terms_have_their_values.Goals as goal

pub returns : goal.returns
returns c = values_of_term
