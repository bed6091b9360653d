use Rattle.std.proofs.Common.{FitsSigned, w64, rules, ap, ◌∙◌}
use Rattle.std.proofs.lemmas.Int.{to_z-of_z}
use Rattle.adp_model.specs.PosedProblem.{PosedProblem, axiom_cell}
use Rattle.adp_model.specs.Derivation.{Derives}
use Rattle.adp_model.specs.Scores.{score_of}
use Rattle.k_best.proofs.InOrder.{all_at}
use Rattle.k_best.proofs.AtPlaces.{same_place}
use Rattle.k_best.proofs.reports.push_tree_lines.Goals as goal

pub tree_nodes-requires-clause-there : goal.tree_nodes-requires-clause-there
tree_nodes-requires-clause-there c = (c.requires.there.0, c.requires.there.1)

pub push_lines-requires : goal.push_lines-requires
push_lines-requires c =
    let p : PosedProblem = c.args.problem.now in
    let fits : FitsSigned w64 c.args.score = search rules in
    let tree = c.requires.there.0 in
    let has = c.requires.there.1 in (
      tree,
      record {
        derived = all_at (Derives p (axiom_cell p)) has.0 c.args.rank tree has.1.hold has.2;
        scored = to_z-of_z w64 c.args.score fits ∙ c.requires.there.2;
        nodes_are = c.deref.ensures.value ∙ c.in_ok-nodes.ensures tree has;
      },
    )

pub returns : goal.returns
returns c tree has =
    let p : PosedProblem = c.args.problem.now in
    let fits : FitsSigned w64 c.args.score = search rules in
    let there = c.requires.there in
    let same = same_place p c.args.lists.now.k (c.first_trees_are_unique.ensures.one p) (axiom_cell p) there.0 tree c.args.rank there.1 has in
    c.in_ok-push_lines.ensures tree (record {
      derived = all_at (Derives p (axiom_cell p)) has.0 c.args.rank tree has.1.hold has.2;
      scored = to_z-of_z w64 c.args.score fits ∙ there.2 ∙ ap (score_of p) same;
      nodes_are = c.deref.ensures.value ∙ c.in_ok-nodes.ensures tree has;
    })
