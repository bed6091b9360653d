use Rattle.std.proofs.Common.{◌≡◌, ◌-◌, ◌++◌, [], List, length, take, IsSome, ℕ, FitsSigned, w64, rules, refl, sym, ap, subst, ◌∙◌, arith, append_assoc}
use Rattle.std.proofs.lemmas.Int.{to_z-of_z}
use mathlib.Core.Bool.{true≢false}
use Rattle.adp_model.specs.declared.cell.Cell.{Cell}
use Rattle.adp_model.specs.PosedProblem.{PosedProblem, axiom_cell}
use Rattle.adp_model.specs.Demand.{IsDemanded, Axiom}
use Rattle.adp_model.specs.Sizes.{IsWithinSizes}
use Rattle.adp_model.specs.Report.{tree_lines}
use Rattle.first_trees.specs.Entries.{AreEntries}
use Rattle.first_trees.specs.ListReport.{lines_of}
use Rattle.k_best.proofs.InOrder.{get_at}
use Rattle.k_best.proofs.AtPlaces.{all_taken_up, as_many, lines_more, none_first, nothing_more, score_stands, tree_stands}
use Rattle.k_best.proofs.reports.push_list.Goals as goal

pub loop-rank-init : goal.loop-rank-init
loop-rank-init c =
    let p : PosedProblem = c.args.problem.now in
    let k = c.args.lists.now.k in
    let demanded = subst (λ (cell : Cell). IsDemanded p cell) c.axiom_cell.ensures
    (subst (λ (q : PosedProblem). IsDemanded q c.axiom_cell.result) c.requires (c.in-Some.ensures.only refl)) in
    let are = subst (λ (cell : Cell). AreEntries p k cell c.in-Some.entries.now) c.axiom_cell.ensures
    (subst (λ (q : PosedProblem). AreEntries q k c.axiom_cell.result c.in-Some.entries.now) c.requires c.in-Some.ensures.entries) in
    (are.0, demanded, are.1, are.2, sym (nothing_more c.args.out.now.items))

pub push_tree_lines-requires-clause-there : goal.push_tree_lines-requires-clause-there
push_tree_lines-requires-clause-there c =
    let p : PosedProblem = c.args.problem.now in
    let k = c.args.lists.now.k in
    let here = c.loop-rank.invariant in
    let fits : FitsSigned w64 c.score.result = search rules in
    let at = get_at c.in-Some.entries.now c.loop-rank.rank c.index-entries-rank.result c.loop-rank-test.true c.index-entries-rank.is in
    let stands = tree_stands p k here.0 c.in-Some.entries.now c.loop-rank.rank c.index-entries-rank.result here.3 at in
    (stands.0, (here.0, here.2, stands.1), to_z-of_z w64 c.score.result fits ∙ c.score.ensures ∙ score_stands p k stands.0 c.index-entries-rank.result stands.2)

pub loop-rank-preserved : goal.loop-rank-preserved
loop-rank-preserved c =
    let p : PosedProblem = c.args.problem.now in
    let k = c.args.lists.now.k in
    let here = c.loop-rank.invariant in
    let at = get_at c.in-Some.entries.now c.loop-rank.rank c.index-entries-rank.result c.loop-rank-test.true c.index-entries-rank.is in
    let stands = tree_stands p k here.0 c.in-Some.entries.now c.loop-rank.rank c.index-entries-rank.result here.3 at in (
      here.0,
      here.1,
      here.2,
      here.3,
      c.in_ok-push_tree_lines.ensures stands.0 (here.0, here.2, stands.1)
          ∙ ap (λ (out : List ℕ). out ++ tree_lines p stands.0) here.4
          ∙ append_assoc c.args.out.now.items (lines_of p (take c.loop-rank.rank here.0)) (tree_lines p stands.0)
          ∙ ap (λ (text : List ℕ). c.args.out.now.items ++ text) (sym (lines_more p here.0 c.loop-rank.rank stands.0 stands.1)),
    )

pub returns : goal.returns
returns c =
    let p : PosedProblem = c.args.problem.now in
    let k = c.args.lists.now.k in
    let here = c.loop-rank.invariant in
    let many = as_many p k here.0 c.in-Some.entries.now here.3 in (
      here.0,
      here.2,
      here.4 ∙ ap (λ trees. c.args.out.now.items ++ lines_of p trees) (all_taken_up here.0 c.loop-rank.rank (omega (arith, many, c.loop-rank-test.false))),
      sym many,
    )

pub returns-in_default : goal.returns-in_default
returns-in_default c =
    let p : PosedProblem = c.args.problem.now in
    let keeps = c.admissible.ensures in
    let whole : length p.word - 0 ≡ length p.word = omega arith in
    let undemanded : IsDemanded p (axiom_cell p) → ⊥ = λ demanded.
    let told = subst (λ found. IsSome found) c.in_default.is (c.list.ensures.demanded
    (subst (λ (q : PosedProblem). IsDemanded q c.axiom_cell.result) (sym c.requires) (subst (IsDemanded p) (sym c.axiom_cell.ensures) demanded))) in
    true≢false (sym told) in (
      [],
      none_first p (axiom_cell p) c.args.lists.now.k (λ tree derived. undemanded (Axiom
          (subst (λ n. IsWithinSizes p.grammar p.grammar.axiom n) whole
          (c.derived_lengths_are_within_sizes.ensures.within p keeps.least keeps.greatest keeps.ranks keeps.checked (axiom_cell p) tree derived)))),
      sym (nothing_more c.args.out.now.items),
      refl,
    )
