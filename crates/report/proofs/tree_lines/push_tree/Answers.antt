use Rattle.std.proofs.Common.{OnOk, Ok, Err, Result, refl}
use Rattle.adp_model.specs.PosedProblem.{axiom_cell}
use Rattle.adp_model.specs.TreeText.{tree_text}
use Rattle.report.proofs.tree_lines.push_tree.Goals as goal

on_ok : {X E : Type 0} (r : Result X E) (P Q : Type 0) → (P → Q) → OnOk r P → OnOk r Q
on_ok (Ok x) P Q to h = to h
on_ok (Err e) P Q to h = tt

pub push_nodes-requires : goal.push_nodes-requires
push_nodes-requires c =
    (axiom_cell c.args.problem.now, c.requires.0, c.requires.1.derived, c.requires.2)

pub returns : goal.returns
returns c =
    let p = c.args.problem.now in
    let tree = c.requires.0 in
    on_ok c.push_nodes.result _ _
    (λ written. (tree_text p tree, (tree, c.requires.1, refl), written (axiom_cell p) tree c.requires.1.derived c.requires.2)) c.push_nodes.ensures
