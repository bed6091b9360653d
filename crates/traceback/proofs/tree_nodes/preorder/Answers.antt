use Rattle.std.proofs.Common.{subst}
use Rattle.adp_model.specs.PosedProblem.{PosedProblem}
use Rattle.traceback.specs.Listing.{IsListing}
use Rattle.traceback.proofs.Steps.{top_of, step}
use Rattle.traceback.proofs.tree_nodes.preorder.Goals as goal

pub choice_at-choice-requires-clause-top : goal.choice_at-choice-requires-clause-top
choice_at-choice-requires-clause-top g c =
    top_of c.args.problem.now c.loop-cell.nodes.items c.pop.new.self.items c.in-Some.cell
    (subst (λ x. IsListing c.args.problem.now c.loop-cell.nodes.items x) c.in-Some.ensures.items c.loop-cell.invariant)

pub loop-cell-preserved : goal.loop-cell-preserved
loop-cell-preserved g c =
    let p : PosedProblem = c.args.problem.now in
    let formed = c.admissible.ensures.checked.well_formed in
    let listing = subst (λ x. IsListing p c.loop-cell.nodes.items x) c.in-Some.ensures.items c.loop-cell.invariant in
    let next = step p (c.children_are_placed.ensures p formed) (c.bellman.ensures.admissible p c.admissible.ensures)
    (λ cell t u first second. c.preferred_tree_is_unique.ensures p cell t u formed first second)
    c.loop-cell.nodes.items c.pop.new.self.items c.in-Some.cell c.choice_at-choice.ensures.0 c.choice_at-choice.result listing c.choice_at-choice.ensures.1 in
    rw (c.in_ok-push.ensures.items, c.in_ok-push_children.ensures) next.listing
