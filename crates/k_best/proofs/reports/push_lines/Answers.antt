use Rattle.std.proofs.Common.{◌≡◌, ◌++◌, codes, FitsSigned, w64, rules, ap, ◌∙◌}
use Rattle.std.proofs.lemmas.Int.{to_z-of_z}
use Rattle.std.specs.Fmt.{signed_decimal}
use Rattle.adp_model.specs.PosedProblem.{PosedProblem, axiom_cell}
use Rattle.adp_model.specs.TreeText.{tree_text}
use Rattle.k_best.proofs.AtPlaces.{lines_written}
use Rattle.k_best.proofs.reports.push_lines.Goals as goal

pub push_nodes-requires : goal.push_nodes-requires
push_nodes-requires c = (axiom_cell c.args.problem.now, c.requires.0, c.requires.1.derived, c.requires.1.nodes_are)

pub returns : goal.returns
returns c tree are =
    let p : PosedProblem = c.args.problem.now in
    let fits : FitsSigned w64 c.args.score = search rules in
    let score_is : c.push_signed.new.out.items ≡ c.extend_from_slice.new.self.items ++ signed_decimal c.args.score =
    c.in_ok-push_signed.ensures.appended ∙ ap (λ score. c.extend_from_slice.new.self.items ++ signed_decimal score) (to_z-of_z w64 c.args.score fits) in
    let written =
    lines_written c.args.out.now.items (codes "score ") (signed_decimal c.args.score) (codes "tree ") (tree_text p tree) _ _ _ _ _
    c.in_ok-extend_from_slice.ensures.items score_is c.in_ok-extend_from_slice-2.ensures.items
    (c.in_ok-push_nodes.ensures (axiom_cell p) tree are.derived are.nodes_are) c.in_ok-push.ensures.items in
    rw (← are.scored) written
