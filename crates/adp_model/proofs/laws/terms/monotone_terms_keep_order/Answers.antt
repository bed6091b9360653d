use Rattle.adp_model.proofs.TermOrders.{KeepsOrder-monotone}
use Rattle.adp_model.proofs.laws.terms.monotone_terms_keep_order.Goals as goal

pub returns : goal.returns
returns c = KeepsOrder-monotone
