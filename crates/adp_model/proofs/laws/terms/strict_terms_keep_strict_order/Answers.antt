use Rattle.adp_model.specs.Terms.{CanHaveAny}
use Rattle.adp_model.proofs.Strict.{KeepsStrictOrder-strict}
use Rattle.adp_model.proofs.laws.terms.strict_terms_keep_strict_order.Goals as goal

pub returns : goal.returns
returns c = KeepsStrictOrder-strict CanHaveAny
