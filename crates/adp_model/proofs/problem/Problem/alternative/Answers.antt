use Rattle.std.proofs.Common.{None, ◌≡◌, List, [], get_or, ap, ◌∙◌}
use Rattle.std.proofs.lemmas.List.{get_or_default}
use Rattle.adp_model.specs.declared.grammar.Alt.{Alt}
use Rattle.adp_model.proofs.problem.Problem.alternative.Goals as goal

pub alternatives-requires : goal.alternatives-requires
alternatives-requires c = c.alternatives_fit.ensures.rule c.args.self.now.grammar c.args.rule c.args.alt c.requires

pub bounds-alternatives-alt : goal.bounds-alternatives-alt
bounds-alternatives-alt c = rw c.alternatives.ensures.alternatives c.requires

pub returns : goal.returns
returns c =
    let none : Alt = record { sign = 0; args = []; size = None } in
    c.index-alternatives-alt.is
    ∙ get_or_default c.alternatives.result.now c.args.alt c.index-alternatives-alt.result none
    (rw c.alternatives.ensures.alternatives c.requires)
    ∙ ap (λ (alts : List Alt). get_or alts c.args.alt none) c.alternatives.ensures.alternatives
