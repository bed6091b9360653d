use Rattle.adp_model.proofs.TermOrders.{term_not_negative}
use Rattle.adp_model.proofs.laws.terms.proved_terms_are_not_negative.Goals as goal

pub returns : goal.returns
returns c = term_not_negative
