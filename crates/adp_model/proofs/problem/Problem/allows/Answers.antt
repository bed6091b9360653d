use Rattle.std.proofs.Common.{IsTrue, ◌↔◌, subst}
use Rattle.adp_model.specs.declared.grammar.Alt.{Alt}
use Rattle.adp_model.specs.Lengths.{AllowsLength}
use Rattle.adp_model.proofs.problem.Problem.allows.Goals as goal

pub returns : goal.returns
returns c = subst (λ (it : Alt). IsTrue c.allows.result ↔ AllowsLength it c.args.letters) c.alternative.ensures c.allows.ensures
