use Rattle.adp_model.proofs.FittingTerms.{terms-formed, IsTermFor-sign}
use Rattle.adp_model.proofs.laws.well_formed.terms_fit_their_signs.Goals as goal

pub returns : goal.returns
returns c = record {
  terms = terms-formed;
  fit = IsTermFor-sign;
}
