use Rattle.std.proofs.Common.{[], sym, subst}
use Rattle.adp_model.specs.declared.cell.Answer.TheVariants.{Best}
use Rattle.adp_model.specs.PosedProblem.{PosedProblem, axiom_cell}
use Rattle.adp_model.specs.Answers.{IsAnswer}
use Rattle.adp_model.specs.Demand.{IsDemanded}
use Rattle.traceback.specs.Listing.{IsListing}
use Rattle.traceback.proofs.Beginning.{begun, begun_none, none_undemanded}
use Rattle.traceback.proofs.tree_nodes.first_open.Goals as goal

pub returns-in_ok-vec-in-Some-Best : goal.returns-in_ok-vec-in-Some-Best
returns-in_ok-vec-in-Some-Best g c =
    let p : PosedProblem = c.args.problem.now in
    let answer = subst (λ (q : PosedProblem). IsAnswer q c.axiom_cell-whole.result (Best c.in-Some-Best.field-0-0 c.in-Some-Best.field-0-1)) c.requires (rw c.in-Some-Best.field-0-is at c.in-Some-Best.ensures.told) in
    subst (λ x. IsListing p [] x) (sym c.in_ok-vec-in-Some-Best.ensures.items)
    (begun p c.whole_trees.ensures c.axiom_cell-whole.result c.in-Some-Best.field-0-0 c.in-Some-Best.field-0-1 c.axiom_cell-whole.ensures answer)

pub returns-in-None : goal.returns-in-None
returns-in-None g c =
    let p : PosedProblem = c.args.problem.now in
    let undemanded : IsDemanded p (axiom_cell p) → ⊥ = λ demanded.
    let here = subst (λ (q : PosedProblem). IsDemanded q c.axiom_cell-whole.result) (sym c.requires) (subst (λ x. IsDemanded p x) (sym c.axiom_cell-whole.ensures) demanded) in
    let told = c.in-None.ensures.demanded here in
    cc (told) in
    subst (λ x. IsListing p [] x) (sym c.new-in-None.ensures.items) (begun_none p (none_undemanded p c.whole_trees.ensures undemanded))
