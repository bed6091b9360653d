use Rattle.std.proofs.Common.{FitsSigned, w64, rules, inl, refl, sym, subst, ◌∙◌}
use Rattle.std.proofs.lemmas.Int.{to_z-of_z}
use Rattle.adp_model.specs.PosedProblem.{PosedProblem, axiom_cell}
use Rattle.adp_model.specs.Answers.{IsAnswer}
use Rattle.traceback.specs.Preorder.{IsPreorder}
use Rattle.k_best.proofs.Reporting.{best_nodes}
use Rattle.k_best.proofs.reports.push_preferred.Goals as goal

pub push_lines-requires : goal.push_lines-requires
push_lines-requires c =
    let p : PosedProblem = c.args.problem.now in
    let answer = subst (IsAnswer p (axiom_cell p)) c.in-Best.is c.axiom_answer.ensures in
    let fits : FitsSigned w64 c.in-Best.score = search rules in
    let formed = c.admissible.ensures.checked.well_formed in
    let nodes = subst (IsPreorder p) (sym c.deref.ensures.value) c.in_ok-nodes-in-Best.ensures in
    (answer.0, best_nodes p (λ t u. c.preferred_tree_is_unique.ensures p (axiom_cell p) t u formed) answer.0 _ c.deref.result.now answer.1 (to_z-of_z w64 c.in-Best.score fits ∙ answer.2) nodes)

pub returns-in_ok-push_lines-in-Best : goal.returns-in_ok-push_lines-in-Best
returns-in_ok-push_lines-in-Best c =
    let p : PosedProblem = c.args.problem.now in
    let answer = subst (IsAnswer p (axiom_cell p)) c.in-Best.is c.axiom_answer.ensures in
    let fits : FitsSigned w64 c.in-Best.score = search rules in
    let formed = c.admissible.ensures.checked.well_formed in
    let nodes = subst (IsPreorder p) (sym c.deref.ensures.value) c.in_ok-nodes-in-Best.ensures in
    let scored = best_nodes p (λ t u. c.preferred_tree_is_unique.ensures p (axiom_cell p) t u formed) answer.0 _ c.deref.result.now answer.1 (to_z-of_z w64 c.in-Best.score fits ∙ answer.2) nodes in
    inl (answer.0, answer.1, c.in_ok-push_lines-in-Best.ensures answer.0 scored, refl)
