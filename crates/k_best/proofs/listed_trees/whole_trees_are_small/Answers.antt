use Rattle.std.proofs.Common.{◌≡◌, ◌-◌, ◌≤◌, length, subst, arith}
use Rattle.adp_model.specs.PosedProblem.{PosedProblem, axiom_cell}
use Rattle.adp_model.specs.Tree.{node_count}
use Rattle.adp_model.specs.ProblemFields.{most_nodes}
use Rattle.k_best.proofs.Unlisted.{length-nodes_of}
use Rattle.k_best.proofs.listed_trees.whole_trees_are_small.Goals as goal

pub returns : goal.returns
returns c tree derived =
    let p : PosedProblem = c.args.problem.now in
    let keeps = c.admissible.ensures in
    let bound = keeps.limits.nodes.1 in
    let whole : length p.word - 0 ≡ length p.word = omega arith in
    let few : node_count tree ≤ bound.0 p.grammar.axiom (length p.word) =
    subst (λ n. node_count tree ≤ bound.0 p.grammar.axiom n) whole
    (c.bounds_are_sound.ensures.nodes p keeps.least keeps.greatest keeps.ranks keeps.checked keeps.limits.letters bound.0 bound.1 (axiom_cell p) tree derived) in
    let is : keeps.limits.nodes.0 ≡ bound.0 p.grammar.axiom (length p.word) = bound.2 in
    let most : keeps.limits.nodes.0 ≤ most_nodes = keeps.limits.nodes.2 in
    omega (arith, length-nodes_of tree)
