use Rattle.std.proofs.Common.{◌≡◌, ◌<◌, length, ◌++◌, ◌∷◌, [], sym, ap, subst, ◌∙◌}
use Rattle.adp_model.specs.PosedProblem.{PosedProblem}
use Rattle.adp_model.specs.declared.cell.Choice.{Choice}
use Rattle.adp_model.specs.Parts.{alternatives_of}
use Rattle.adp_model.specs.ProblemFields.{IsAdmissible}
use Rattle.adp_model.specs.Splits.{placed}
use Rattle.k_best.specs.ListedNodes.{IsUnlisted, stacked}
use Rattle.k_best.proofs.Unlisted.{popped, step}
use Rattle.k_best.proofs.grown_trees.push_grown.Goals as goal

pub push_children-requires : goal.push_children-requires
push_children-requires c =
    let p : PosedProblem = c.args.basis.now.lines.now in
    let there = c.requires.there in
    let top = popped p c.args.basis.now.k c.args.waiting.now.items c.args.listed there.0 there.1 in
    let root = c.in-Some.ensures top.tree top.stands in
    subst (λ (q : PosedProblem). c.choice-choice.result.alt < length (alternatives_of q.grammar c.args.listed.cell.rule)) (sym c.problem-problem.ensures)
    (subst (λ (choice : Choice). choice.alt < length (alternatives_of p.grammar c.args.listed.cell.rule)) (sym c.choice-choice.ensures) root.viable.in_range)

pub returns : goal.returns
returns c is_known rest unlisted =
    let p : PosedProblem = c.args.basis.now.lines.now in
    let k = c.args.basis.now.k in
    let listed = c.args.listed in
    let stack = c.args.waiting.now.items in
    let entry = c.in-Some.entry.now in
    let keeps = subst IsAdmissible c.problem-problem.ensures c.admissible.ensures in
    let top = popped p k stack listed rest unlisted in
    let root = c.in-Some.ensures top.tree top.stands in
    let next = step p k (c.children_are_placed.ensures p keeps.checked.well_formed) listed entry stack top.after top.demanded
    root.viable top.others top.tree root.derived root.is in
    let chosen : c.choice-choice.result ≡ entry.choice = c.choice-choice.ensures in
    let stacks : c.push_children.new.waiting.items ≡ stack ++ stacked (placed p listed.cell entry.choice.alt entry.choice.cuts) entry.ranks =
    c.in_ok-push_children.ensures
    ∙ ap (λ (q : PosedProblem). stack ++ stacked (placed q listed.cell c.choice-choice.result.alt c.choice-choice.result.cuts) c.ranks.result.now) c.problem-problem.ensures
    ∙ ap (λ (choice : Choice). stack ++ stacked (placed p listed.cell choice.alt choice.cuts) c.ranks.result.now) chosen
    ∙ ap (λ ranks. stack ++ stacked (placed p listed.cell entry.choice.alt entry.choice.cuts) ranks) c.ranks.ensures.ranks in
    record {
      node = record { cell = listed.cell; choice = entry.choice };
      others = next.others;
      nodes_are = c.in_ok-push.ensures.items ∙ ap (λ (choice : Choice). c.args.nodes.now.items ++ record { cell = listed.cell; choice = choice } ∷ []) chosen;
      rest_is = top.rest_is ∙ next.rest_is;
      unlisted = subst (λ waiting. IsUnlisted p k waiting next.others) (sym stacks) next.unlisted;
    }
