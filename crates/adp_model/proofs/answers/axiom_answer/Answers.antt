use Rattle.std.proofs.Common.{◌≡◌, ◌-◌, length, sym, subst, arith}
use Rattle.adp_model.specs.PosedProblem.{PosedProblem, axiom_cell}
use Rattle.adp_model.specs.Sizes.{IsWithinSizes}
use Rattle.adp_model.specs.Demand.{IsDemanded, Axiom}
use Rattle.adp_model.proofs.answers.axiom_answer.Goals as goal

pub returns-in-None : goal.returns-in-None
returns-in-None g c = λ tree derived.
    let p : PosedProblem = c.args.problem.now in
    let keeps = c.admissible.ensures in
    let whole : length p.word - 0 ≡ length p.word = omega arith in
    let within : IsWithinSizes p.grammar p.grammar.axiom (length p.word) = subst (λ n. IsWithinSizes p.grammar p.grammar.axiom n) whole
    (c.derived_lengths_are_within_sizes.ensures.within p keeps.least keeps.greatest keeps.ranks keeps.checked (axiom_cell p) tree derived) in
    let here = subst (λ (q : PosedProblem). IsDemanded q c.axiom_cell.result) (sym c.requires) (subst (λ x. IsDemanded p x) (sym c.axiom_cell.ensures) (Axiom within)) in
    let told = c.in-None.ensures.demanded here in
    cc (told)
