use Rattle.std.proofs.Common.{◌≡◌, ◌++◌, ◌≤◌, ℕ, List, length, take, FitsSigned, w64, rules, sym, ap, subst, ◌∙◌, arith, append_assoc}
use Rattle.std.proofs.lemmas.Int.{to_z-of_z}
use Rattle.adp_model.specs.declared.cell.Cell.{Cell}
use Rattle.adp_model.specs.PosedProblem.{PosedProblem, axiom_cell}
use Rattle.adp_model.specs.Demand.{IsDemanded}
use Rattle.adp_model.specs.ProblemFields.{IsAdmissible}
use Rattle.adp_model.specs.Report.{tree_lines}
use Rattle.adp_model.specs.Tree.{Tree}
use Rattle.first_trees.specs.ListReport.{lines_of}
use Rattle.first_trees.specs.RankedSplits.{HasScoreAt}
use Rattle.k_best.specs.GrowingLists.{IsTold}
use Rattle.k_best.specs.declared.growing.Told.TheVariants.{Nothing}
use Rattle.k_best.proofs.InOrder.{at_within}
use Rattle.k_best.proofs.AtPlaces.{all_taken_up, lines_more, nothing_more}
use Rattle.k_best.proofs.Told.{no_more, stands_there}
use Rattle.k_best.proofs.grown_report.push_grown_list.Goals as goal
use Rattle.k_best.proofs.grown_report.push_grown_list.Goals.{After-axiom_cell-whole}

whole_is : (c : After-axiom_cell-whole) → c.axiom_cell-whole.result ≡ axiom_cell c.args.basis.now.lines.now
whole_is c = c.axiom_cell-whole.ensures ∙ ap axiom_cell c.problem-problem.ensures

pub loop-rank-init : goal.loop-rank-init
loop-rank-init c =
    let at = (goal.at.loop-rank-init c).After-axiom_cell-whole in
    let p : PosedProblem = c.args.basis.now.lines.now in
    let keeps = subst IsAdmissible c.problem-problem.ensures c.admissible.ensures in
    let firsts = c.cells_have_first_trees.ensures p keeps.least keeps.greatest keeps.ranks keeps.checked (axiom_cell p) c.args.basis.now.k in (
      firsts.0,
      subst (IsDemanded p) (whole_is at) c.in-Some.ensures,
      firsts.1,
      c.requires.growing,
      omega arith,
      sym (nothing_more c.args.out.now.items),
    )

pub told_at-requires-clause-growing : goal.told_at-requires-clause-growing
told_at-requires-clause-growing c = c.loop-rank.invariant.3

pub push_grown_tree-requires-clause-growing : goal.push_grown_tree-requires-clause-growing
push_grown_tree-requires-clause-growing c = c.loop-rank.invariant.3

pub push_grown_tree-requires-clause-demanded : goal.push_grown_tree-requires-clause-demanded
push_grown_tree-requires-clause-demanded c = c.loop-rank.invariant.1

pub push_grown_tree-requires-clause-there : goal.push_grown_tree-requires-clause-there
push_grown_tree-requires-clause-there c =
    let at = (goal.at.push_grown_tree-requires-clause-there c).After-axiom_cell-whole in
    let p : PosedProblem = c.args.basis.now.lines.now in
    let k = c.args.basis.now.k in
    let score = c.in-Score.score in
    let fits : FitsSigned w64 score = search rules in
    let has : HasScoreAt p k (axiom_cell p) c.loop-rank.rank score =
    subst (λ (cell : Cell). HasScoreAt p k cell c.loop-rank.rank score) (whole_is at) c.in-Score.ensures in
    (has.0, has.1, to_z-of_z w64 score fits ∙ has.2)

pub loop-rank-preserved : goal.loop-rank-preserved
loop-rank-preserved c =
    let at = (goal.at.loop-rank-preserved c).After-axiom_cell-whole in
    let p : PosedProblem = c.args.basis.now.lines.now in
    let k = c.args.basis.now.k in
    let score = c.in-Score.score in
    let here = c.loop-rank.invariant in
    let has : HasScoreAt p k (axiom_cell p) c.loop-rank.rank score =
    subst (λ (cell : Cell). HasScoreAt p k cell c.loop-rank.rank score) (whole_is at) c.in-Score.ensures in
    let stands = stands_there p k (axiom_cell p) here.0 here.2 (c.first_trees_are_unique.ensures.one p) c.loop-rank.rank has.0 has.1 in
    let within = at_within here.0 c.loop-rank.rank has.0 stands in (
      here.0,
      here.1,
      here.2,
      c.in_ok-push_grown_tree.ensures.growing,
      omega arith,
      c.in_ok-push_grown_tree.ensures.lines c.if-not-branch.false has.0 has.1
          ∙ ap (λ (out : List ℕ). out ++ tree_lines p has.0) here.5
          ∙ append_assoc c.args.out.now.items (lines_of p (take c.loop-rank.rank here.0)) (tree_lines p has.0)
          ∙ ap (λ (text : List ℕ). c.args.out.now.items ++ text) (sym (lines_more p here.0 c.loop-rank.rank has.0 stands)),
    )

pub returns-in-Nothing : goal.returns-in-Nothing
returns-in-Nothing c =
    let at = (goal.at.returns-in-Nothing c).After-axiom_cell-whole in
    let p : PosedProblem = c.args.basis.now.lines.now in
    let k = c.args.basis.now.k in
    let here = c.loop-rank.invariant in
    let none = subst (λ (cell : Cell). IsTold p k cell c.loop-rank.rank Nothing) (whole_is at) c.in-Nothing.ensures in
    let few = no_more p k (axiom_cell p) here.0 here.2 c.loop-rank.rank none in (
      here.0,
      here.2,
      here.5 ∙ ap (λ (trees : List Tree). c.args.out.now.items ++ lines_of p trees) (all_taken_up here.0 c.loop-rank.rank few),
      omega (arith, few, here.4),
    )

pub returns : goal.returns
returns c =
    let p : PosedProblem = c.args.basis.now.lines.now in
    let here = c.loop-rank.invariant in
    let few : length here.0 ≤ c.loop-rank.rank = omega (arith, here.2.few, c.loop-rank-test.false) in (
      here.0,
      here.2,
      here.5 ∙ ap (λ (trees : List Tree). c.args.out.now.items ++ lines_of p trees) (all_taken_up here.0 c.loop-rank.rank few),
      omega (arith, few, here.4, here.2.few, c.loop-rank-test.false),
    )
