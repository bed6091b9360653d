use Rattle.adp_model.proofs.FittingTerms.{term-tested}
use Rattle.adp_model.proofs.laws.well_formed.tested_terms_fit.Goals as goal

pub returns : goal.returns
returns c = term-tested
