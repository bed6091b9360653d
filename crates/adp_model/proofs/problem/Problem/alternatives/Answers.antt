use Rattle.std.proofs.Common.{◌≡◌, arith}
use Rattle.std.proofs.lemmas.Grind.{common_steps}
use Rattle.adp_model.specs.Parts.{alternatives_of}
use Rattle.adp_model.proofs.problem.Problem.alternatives.Goals as goal

pub returns-clause-some : goal.returns-clause-some
returns-clause-some c =
    let p = c.args.self.now in
    let e : c.as_slice-2.result.now ≡ alternatives_of p.grammar c.args.rule = grind (arith, common_steps) in
    rw e (c.alternatives_fit.ensures.some p.grammar c.admissible.ensures.checked.well_formed c.args.rule c.requires)

pub returns-clause-few : goal.returns-clause-few
returns-clause-few c =
    let p = c.args.self.now in
    let e : c.as_slice-2.result.now ≡ alternatives_of p.grammar c.args.rule = grind (arith, common_steps) in
    rw e (c.alternatives_fit.ensures.few p.grammar c.admissible.ensures.checked.well_formed c.args.rule)
