use Rattle.std.proofs.Common.{◌≡◌, ◌≤◌, ◌+◌, ◌++◌, ◌∷◌, [], List, length, refl, sym, ap, subst, ◌∙◌, arith, append_assoc, length-append}
use Rattle.adp_model.specs.declared.cell.Cell.{Cell}
use Rattle.adp_model.specs.PosedProblem.{PosedProblem, axiom_cell}
use Rattle.adp_model.specs.Demand.{IsDemanded}
use Rattle.adp_model.specs.Derivation.{Derives}
use Rattle.adp_model.specs.ProblemFields.{most_nodes}
use Rattle.adp_model.specs.Tree.{Tree}
use Rattle.first_trees.specs.FirstTrees.{HasPlace}
use Rattle.traceback.specs.declared.tree_nodes.NodeAt.{NodeAt}
use Rattle.traceback.specs.Preorder.{nodes_of}
use Rattle.k_best.specs.ListedNodes.{IsUnlisted}
use Rattle.k_best.proofs.InOrder.{all_at}
use Rattle.k_best.proofs.AtPlaces.{same_place}
use Rattle.k_best.proofs.Unlisted.{nothing_more}
use Rattle.k_best.proofs.grown_trees.grown_nodes.Goals as goal

no_items : {X : Type 0} (xs : List X) → length xs ≡ 0 → xs ≡ []
no_items [] none = refl
no_items (x ∷ xs) none = absurd (omega arith)

pub loop-listed-init : goal.loop-listed-init
loop-listed-init c =
    let p : PosedProblem = c.args.basis.now.lines.now in
    let k = c.args.basis.now.k in
    let tree = c.requires.there.0 in
    let cell_is : c.axiom_cell.result ≡ axiom_cell p = c.axiom_cell.ensures ∙ ap axiom_cell c.problem-problem.ensures in
    let demanded = subst (IsDemanded p) (sym cell_is) c.requires.demanded in
    let has = subst (λ (cell : Cell). HasPlace p k cell tree c.args.rank) (sym cell_is) c.requires.there.1 in
    let small = subst (λ (q : PosedProblem). (tree : Tree) → Derives q (axiom_cell q) tree → length (nodes_of tree) ≤ most_nodes) c.problem-problem.ensures c.whole_trees_are_small.ensures in (
      tree,
      nodes_of tree,
      c.requires.there.1,
      subst (λ stack. IsUnlisted p k stack (nodes_of tree)) (sym c.in_ok-waiting.ensures.items) (tree, [], demanded, has, refl, refl),
      ap (λ (nodes : List NodeAt). nodes ++ nodes_of tree) (sym c.new-nodes.ensures.items),
      small tree (all_at (Derives p (axiom_cell p)) c.requires.there.1.0 c.args.rank tree c.requires.there.1.1.hold c.requires.there.1.2),
      c.requires.growing,
    )

pub begin-requires-clause-growing : goal.begin-requires-clause-growing
begin-requires-clause-growing c = c.loop-listed.invariant.6

pub push_grown-requires-clause-there : goal.push_grown-requires-clause-there
push_grown-requires-clause-there c =
    let here = c.loop-listed.invariant in
    (here.1, subst (λ stack. IsUnlisted c.args.basis.now.lines.now c.args.basis.now.k stack here.1) c.in-Some.ensures.items here.3)

pub loop-listed-preserved : goal.loop-listed-preserved
loop-listed-preserved c =
    let p : PosedProblem = c.args.basis.now.lines.now in
    let k = c.args.basis.now.k in
    let here = c.loop-listed.invariant in
    let more = c.in_ok-push_grown.ensures c.if-not-branch.false here.1 (subst (λ stack. IsUnlisted p k stack here.1) c.in-Some.ensures.items here.3) in (
      here.0,
      more.others,
      here.2,
      more.unlisted,
      here.4 ∙ ap (λ (rest : List NodeAt). c.loop-listed.nodes.items ++ rest) more.rest_is
          ∙ sym (append_assoc c.loop-listed.nodes.items (more.node ∷ []) more.others)
          ∙ ap (λ (nodes : List NodeAt). nodes ++ more.others) (sym more.nodes_are),
      here.5,
      c.in_ok-begin.ensures,
    )

pub loop-listed-smaller : goal.loop-listed-smaller
loop-listed-smaller c =
    let p : PosedProblem = c.args.basis.now.lines.now in
    let k = c.args.basis.now.k in
    let here = c.loop-listed.invariant in
    let more = c.in_ok-push_grown.ensures c.if-not-branch.false here.1 (subst (λ stack. IsUnlisted p k stack here.1) c.in-Some.ensures.items here.3) in
    let long : length (nodes_of here.0) ≡ length c.loop-listed.nodes.items + length here.1 =
    ap length here.4 ∙ length-append c.loop-listed.nodes.items here.1 in
    omega (arith, here.5, ap length more.rest_is, ap length more.nodes_are, length-append c.loop-listed.nodes.items (more.node ∷ []))

pub returns-clause-growing : goal.returns-clause-growing
returns-clause-growing c = c.loop-listed.invariant.6

pub returns-clause-nodes : goal.returns-clause-nodes
returns-clause-nodes c tree has =
    let p : PosedProblem = c.args.basis.now.lines.now in
    let k = c.args.basis.now.k in
    let here = c.loop-listed.invariant in
    let none : length c.loop-listed.waiting.items ≡ 0 = omega (arith, c.in_default.ensures.cases.0) in
    let empty : c.loop-listed.waiting.items ≡ [] = no_items c.loop-listed.waiting.items none in
    let rest_is : here.1 ≡ [] = subst (λ stack. IsUnlisted p k stack here.1) empty here.3 in
    let same = same_place p k (c.first_trees_are_unique.ensures.one p) (axiom_cell p) here.0 tree c.args.rank here.2 has in
    sym (ap nodes_of (sym same) ∙ here.4 ∙ ap (λ (rest : List NodeAt). c.loop-listed.nodes.items ++ rest) rest_is ∙ nothing_more c.loop-listed.nodes.items)
