use Rattle.adp_model.proofs.FittingTerms.{term-there, IsTermFor-alternative}
use Rattle.adp_model.proofs.laws.well_formed.terms_fit_their_alternatives.Goals as goal

pub returns : goal.returns
returns c = record {
  there = term-there;
  fit = IsTermFor-alternative;
}
