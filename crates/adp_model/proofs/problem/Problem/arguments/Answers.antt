use Rattle.std.proofs.Common.{None, ◌≡◌, List, [], get_or, ap, ◌∙◌}
use Rattle.std.proofs.lemmas.List.{get_or_default}
use Rattle.adp_model.specs.declared.grammar.Alt.{Alt}
use Rattle.adp_model.specs.Parts.{arguments_of}
use Rattle.adp_model.proofs.problem.Problem.arguments.Goals as goal
use Rattle.adp_model.proofs.problem.Problem.arguments.Goals.{After-as_slice}

read : (c : After-as_slice) → c.as_slice.result.now ≡ arguments_of c.args.self.now.grammar c.args.rule c.args.alt
read c =
    let none : Alt = record { sign = 0; args = []; size = None } in
    c.as_slice.ensures
    ∙ ap (λ (alt : Alt). alt.args)
    (get_or_default c.alternatives.result.now c.args.alt c.index-alternatives-alt.result none
    (rw c.alternatives.ensures.alternatives c.requires)
    ∙ ap (λ (alts : List Alt). get_or alts c.args.alt none) c.alternatives.ensures.alternatives)

pub alternatives-requires : goal.alternatives-requires
alternatives-requires c = c.alternatives_fit.ensures.rule c.args.self.now.grammar c.args.rule c.args.alt c.requires

pub bounds-alternatives-alt : goal.bounds-alternatives-alt
bounds-alternatives-alt c = rw c.alternatives.ensures.alternatives c.requires

pub returns-clause-arguments : goal.returns-clause-arguments
returns-clause-arguments c = read (goal.at.returns-clause-arguments c).After-as_slice

pub returns-clause-some : goal.returns-clause-some
returns-clause-some c =
    rw (read (goal.at.returns-clause-some c).After-as_slice)
    (c.alternatives_fit.ensures.arguments c.args.self.now.grammar c.admissible.ensures.checked.well_formed c.args.rule
    c.args.alt c.requires)

pub returns-clause-few : goal.returns-clause-few
returns-clause-few c =
    rw (read (goal.at.returns-clause-few c).After-as_slice)
    (c.arguments_are_few_and_known.ensures.few c.args.self.now.grammar c.admissible.ensures.checked.well_formed
    c.args.rule c.args.alt)

pub returns-clause-known : goal.returns-clause-known
returns-clause-known c =
    rw (read (goal.at.returns-clause-known c).After-as_slice)
    (c.arguments_are_few_and_known.ensures.known c.args.self.now.grammar c.admissible.ensures.checked.well_formed
    c.args.rule c.args.alt)
