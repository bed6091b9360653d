use Rattle.std.proofs.Common.{◌++◌, FitsSigned, w64, rules, sym, ap, subst, ◌∙◌}
use Rattle.std.proofs.lemmas.Int.{to_z-of_z}
use Rattle.adp_model.specs.PosedProblem.{PosedProblem, axiom_cell}
use Rattle.adp_model.specs.Derivation.{Derives}
use Rattle.adp_model.specs.Report.{tree_lines}
use Rattle.adp_model.specs.Scores.{score_of}
use Rattle.k_best.proofs.InOrder.{all_at}
use Rattle.k_best.proofs.AtPlaces.{same_place}
use Rattle.k_best.proofs.grown_report.push_grown_tree.Goals as goal

pub push_lines-requires : goal.push_lines-requires
push_lines-requires c =
    let p : PosedProblem = c.args.basis.now.lines.now in
    let fits : FitsSigned w64 c.args.score = search rules in
    let known = rw c.in-Some.is at c.in_ok-nodes.ensures.nodes in
    let tree = c.requires.there.0 in
    let has = c.requires.there.1 in (
      tree,
      record {
        derived = subst (λ (q : PosedProblem). Derives q (axiom_cell q) tree) (sym c.problem.ensures)
            (all_at (Derives p (axiom_cell p)) has.0 c.args.rank tree has.1.hold has.2);
        scored = to_z-of_z w64 c.args.score fits ∙ c.requires.there.2 ∙ ap (λ (q : PosedProblem). score_of q tree) (sym c.problem.ensures);
        nodes_are = c.deref.ensures.value ∙ known tree has;
      },
    )

pub returns-clause-lines : goal.returns-clause-lines
returns-clause-lines c is_known tree has =
    let p : PosedProblem = c.args.basis.now.lines.now in
    let fits : FitsSigned w64 c.args.score = search rules in
    let known = rw c.in-Some.is at c.in_ok-nodes.ensures.nodes in
    let there = c.requires.there in
    let same = same_place p c.args.basis.now.k (c.first_trees_are_unique.ensures.one p) (axiom_cell p) there.0 tree c.args.rank there.1 has in
    c.in_ok-push_lines.ensures tree (record {
      derived = subst (λ (q : PosedProblem). Derives q (axiom_cell q) tree) (sym c.problem.ensures)
          (all_at (Derives p (axiom_cell p)) has.0 c.args.rank tree has.1.hold has.2);
      scored = to_z-of_z w64 c.args.score fits ∙ there.2 ∙ ap (score_of p) same ∙ ap (λ (q : PosedProblem). score_of q tree) (sym c.problem.ensures);
      nodes_are = c.deref.ensures.value ∙ known tree has;
    })
    ∙ ap (λ (q : PosedProblem). c.args.out.now.items ++ tree_lines q tree) c.problem.ensures
