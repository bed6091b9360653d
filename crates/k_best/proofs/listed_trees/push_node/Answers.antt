use Rattle.std.proofs.Common.{◌≡◌, ◌<◌, length, ◌++◌, ◌∷◌, [], sym, ap, subst, ◌∙◌}
use Rattle.adp_model.specs.PosedProblem.{PosedProblem}
use Rattle.adp_model.specs.declared.cell.Choice.{Choice}
use Rattle.adp_model.specs.Parts.{alternatives_of}
use Rattle.adp_model.specs.Splits.{placed}
use Rattle.k_best.specs.ListedNodes.{IsUnlisted, stacked}
use Rattle.k_best.proofs.Unlisted.{popped, step}
use Rattle.k_best.proofs.listed_trees.push_node.Goals as goal

pub listed_entry-entry-requires-clause-demanded : goal.listed_entry-entry-requires-clause-demanded
listed_entry-entry-requires-clause-demanded c =
    let there = c.requires.there in
    (popped c.args.problem.now c.args.lists.now.k c.args.waiting.now.items c.args.listed there.0 there.1).demanded

pub listed_entry-entry-requires-clause-there : goal.listed_entry-entry-requires-clause-there
listed_entry-entry-requires-clause-there c =
    let there = c.requires.there in
    let top = popped c.args.problem.now c.args.lists.now.k c.args.waiting.now.items c.args.listed there.0 there.1 in
    (top.tree, top.stands)

pub push_children-requires : goal.push_children-requires
push_children-requires c =
    let p : PosedProblem = c.args.problem.now in
    let there = c.requires.there in
    let top = popped p c.args.lists.now.k c.args.waiting.now.items c.args.listed there.0 there.1 in
    let root = c.listed_entry-entry.ensures top.tree top.stands in
    subst (λ (choice : Choice). choice.alt < length (alternatives_of p.grammar c.args.listed.cell.rule)) (sym c.choice-choice.ensures) root.viable.in_range

pub returns : goal.returns
returns c rest unlisted =
    let p : PosedProblem = c.args.problem.now in
    let k = c.args.lists.now.k in
    let listed = c.args.listed in
    let stack = c.args.waiting.now.items in
    let entry = c.listed_entry-entry.result.now in
    let top = popped p k stack listed rest unlisted in
    let root = c.listed_entry-entry.ensures top.tree top.stands in
    let next = step p k (c.children_are_placed.ensures p c.admissible.ensures.checked.well_formed) listed entry stack top.after top.demanded
    root.viable top.others top.tree root.derived root.is in
    let chosen : c.choice-choice.result ≡ entry.choice = c.choice-choice.ensures in
    let stacks : c.push_children.new.waiting.items ≡ stack ++ stacked (placed p listed.cell entry.choice.alt entry.choice.cuts) entry.ranks =
    c.in_ok-push_children.ensures
    ∙ ap (λ (choice : Choice). stack ++ stacked (placed p listed.cell choice.alt choice.cuts) c.ranks.result.now) chosen
    ∙ ap (λ ranks. stack ++ stacked (placed p listed.cell entry.choice.alt entry.choice.cuts) ranks) c.ranks.ensures.ranks in
    record {
      node = record { cell = listed.cell; choice = entry.choice };
      others = next.others;
      nodes_are = c.in_ok-push.ensures.items ∙ ap (λ (choice : Choice). c.args.nodes.now.items ++ record { cell = listed.cell; choice = choice } ∷ []) chosen;
      rest_is = top.rest_is ∙ next.rest_is;
      unlisted = subst (λ waiting. IsUnlisted p k waiting next.others) (sym stacks) next.unlisted;
    }
