use Rattle.std.proofs.Common.{ap, sym, not, ◌&&◌, true}
use Rattle.adp_model.proofs.TwiceValues.{numbers_differ}
use Rattle.adp_model.specs.Terms.{leaves}
use Rattle.adp_model.specs.WideTerms.{form_of}
use Rattle.adp_model.proofs.formed_terms.+are_apart.Goals as goal

pub returns-in-Number : goal.returns-in-Number
returns-in-Number t c = rw c.in-Number.is (sym (ap (λ b. not b && true) (numbers_differ c.in-Number.field-0 (leaves (form_of c.args.other.now)))))
