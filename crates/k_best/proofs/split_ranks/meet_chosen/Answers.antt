use Rattle.std.proofs.Common.{◌≡◌, ℕ, map, nat_abs, FitsSigned, w64, sym, ap, subst, ◌∙◌, arith, rules, refl, IfOk, false}
use Rattle.std.proofs.lemmas.Int.{to_z-of_z}
use Rattle.adp_model.specs.declared.grammar.Goal.{Goal}
use Rattle.adp_model.specs.declared.grammar.Term.{Term}
use Rattle.adp_model.specs.PosedProblem.{PosedProblem}
use Rattle.adp_model.specs.ProblemFields.{IsAdmissible}
use Rattle.adp_model.specs.Parts.{algebra_of, term_of}
use Rattle.adp_model.specs.Terms.{magnitude, term_value}
use Rattle.first_trees.specs.Entries.{Entry, EntryPrecedes}
use Rattle.first_trees.specs.FirstTrees.{AreInOrder, IsAt}
use Rattle.first_trees.specs.RankedSplits.{IsRankedSplit}
use Rattle.std.specs.List.{AllByRecursion}
use Rattle.k_best.specs.Settled.{IsBehind, IsComparable, IsSettled}
use Rattle.k_best.specs.Chosen.{ranks_of, values_of}
use Rattle.k_best.proofs.Meeting.{comparable, if_ok, listing_after, made_ranked, met_after, out_after}
use Rattle.k_best.proofs.split_ranks.meet_chosen.Goals as goal
use Rattle.k_best.proofs.split_ranks.meet_chosen.Goals.{After-lower_ranks_come_first, After-goal}

admissible : (c : After-lower_ranks_come_first) → IsAdmissible c.args.split.lines.now
admissible c = subst IsAdmissible c.problem-problem.ensures c.admissible.ensures

pub eval-score-requires-clause-bounded : goal.eval-score-requires-clause-bounded
eval-score-requires-clause-bounded c =
    let p = c.args.split.lines.now in
    let cell = c.args.split.cell in
    let choice = c.args.split.choice in
    let known = admissible (goal.at.eval-score-requires-clause-bounded c).After-lower_ranks_come_first in
    let entry : Entry = record {
      score = term_value (term_of p cell.rule choice.alt) (values_of c.args.chosen);
      choice = choice;
      ranks = ranks_of c.args.chosen;
    } in
    let split : IsRankedSplit p c.args.split.k cell entry = record {
      viable = c.requires.viable;
      values = values_of c.args.chosen;
      are_values = c.requires.ranked;
      scored = refl;
    } in
    let low =
    c.ranked_splits_keep_the_score_bound.ensures p known.least known.greatest known.ranks known.checked known.limits.letters
    known.limits.scores.0 known.limits.scores.1 c.args.split.k cell c.requires.span entry split in
    let same : magnitude c.args.split.term.now (map nat_abs (values_of c.args.chosen)) ≡ magnitude (term_of p cell.rule choice.alt) (map nat_abs (values_of c.args.chosen)) =
    ap (λ (term : Term). magnitude term (map nat_abs (values_of c.args.chosen))) c.requires.term in
    omega (arith, low, known.limits.scores.2, same)

-- the entry that was made is a ranked split
is_ranked : (c : After-goal) → IsRankedSplit c.args.split.lines.now c.args.split.k c.args.split.cell c.new-entry.result
is_ranked c =
    let p = c.args.split.lines.now in
    let choice = c.args.split.choice in
    let values = values_of c.args.chosen in
    let fits : FitsSigned w64 c.eval-score.result = search rules in
    let scored : c.new-entry.result.score ≡ c.eval-score.result = simp to_z-of_z at c.new-entry.ensures.score in
    let valued : c.eval-score.result ≡ term_value (term_of p c.args.split.cell.rule choice.alt) values =
    c.eval-score.ensures ∙ ap (λ (term : Term). term_value term values) c.requires.term in
    made_ranked p c.args.split.k c.args.split.cell c.new-entry.result choice (ranks_of c.args.chosen) values
    c.new-entry.ensures.choice c.new-entry.ensures.ranks (scored ∙ valued) c.requires.viable c.requires.ranked

goal_is : (c : After-goal) → (algebra_of c.args.split.lines.now).goal ≡ c.goal.result
goal_is c = sym (c.goal.ensures ∙ ap (λ (q : PosedProblem). (algebra_of q).goal) c.problem-problem.ensures)

pub meet-requires-clause-comparable : goal.meet-requires-clause-comparable
meet-requires-clause-comparable c =
    let at = (goal.at.meet-requires-clause-comparable c).After-goal in
    let known = admissible (goal.at.meet-requires-clause-comparable c).After-lower_ranks_come_first in
    let p = c.args.split.lines.now in
    let cell = c.args.split.cell in
    let k = c.args.split.k in
    subst (λ (goal : Goal). AllByRecursion (IsComparable goal c.new-entry.result) c.args.listed.now.items) (goal_is at)
    (comparable p k cell (c.entries_are_in_strict_order.ensures.irreflexive (algebra_of p).goal)
    (c.entries_are_in_strict_order.ensures.transitive (algebra_of p).goal)
    (c.ranked_splits_are_in_total_order.ensures p known.least known.greatest known.ranks known.checked k cell c.requires.span)
    (c.lower_ranks_come_first.ensures p known.least known.greatest known.ranks known.checked k cell c.requires.span)
    c.new-entry.result (is_ranked at) c.args.listed.now.items c.requires.listing.hold)

pub returns-clause-listing : goal.returns-clause-listing
returns-clause-listing c =
    let at = (goal.at.returns-clause-listing c).After-goal in
    let known = admissible (goal.at.returns-clause-listing c).After-lower_ranks_come_first in
    let p = c.args.split.lines.now in
    let cell = c.args.split.cell in
    let k = c.args.split.k in
    listing_after p k cell (c.entries_are_in_strict_order.ensures.irreflexive (algebra_of p).goal)
    (c.entries_are_in_strict_order.ensures.transitive (algebra_of p).goal)
    (c.ranked_splits_are_in_total_order.ensures p known.least known.greatest known.ranks known.checked k cell c.requires.span)
    (c.lower_ranks_come_first.ensures p known.least known.greatest known.ranks known.checked k cell c.requires.span)
    c.new-entry.result (is_ranked at) c.meet.result c.args.listed.now.items c.meet.new.listed.items c.requires.listing c.meet.ensures.few
    (subst (λ (goal : Goal). IfOk c.meet.result (λ _. AreInOrder (EntryPrecedes goal) c.meet.new.listed.items)) (sym (goal_is at)) c.meet.ensures.in_order)
    c.meet.ensures.from

pub returns-clause-kept : goal.returns-clause-kept
returns-clause-kept c =
    let at = (goal.at.returns-clause-kept c).After-goal in
    subst (λ (goal : Goal). IfOk c.meet.result (λ _. (entry : Entry) → IsSettled goal c.args.split.k c.args.listed.now.items entry → IsSettled goal c.args.split.k c.meet.new.listed.items entry))
    (sym (goal_is at)) c.meet.ensures.kept

pub returns-clause-met : goal.returns-clause-met
returns-clause-met c =
    let at = (goal.at.returns-clause-met c).After-goal in
    let known = admissible (goal.at.returns-clause-met c).After-lower_ranks_come_first in
    let p = c.args.split.lines.now in
    let cell = c.args.split.cell in
    let k = c.args.split.k in
    met_after p k cell (c.entries_are_in_strict_order.ensures.irreflexive (algebra_of p).goal)
    (c.entries_are_in_strict_order.ensures.transitive (algebra_of p).goal)
    (c.ranked_splits_are_in_total_order.ensures p known.least known.greatest known.ranks known.checked k cell c.requires.span)
    (c.lower_ranks_come_first.ensures p known.least known.greatest known.ranks known.checked k cell c.requires.span)
    c.new-entry.result (is_ranked at) c.meet.result c.meet.new.listed.items c.args.split.choice (ranks_of c.args.chosen) c.new-entry.ensures.choice c.new-entry.ensures.ranks
    (subst (λ (goal : Goal). IfOk c.meet.result (λ _. IsSettled goal k c.meet.new.listed.items c.new-entry.result)) (sym (goal_is at)) c.meet.ensures.settled)

pub returns-clause-out : goal.returns-clause-out
returns-clause-out c =
    let at = (goal.at.returns-clause-out c).After-goal in
    let known = admissible (goal.at.returns-clause-out c).After-lower_ranks_come_first in
    let p = c.args.split.lines.now in
    let cell = c.args.split.cell in
    let k = c.args.split.k in
    out_after p k cell (c.entries_are_in_strict_order.ensures.irreflexive (algebra_of p).goal)
    (c.entries_are_in_strict_order.ensures.transitive (algebra_of p).goal)
    (c.ranked_splits_are_in_total_order.ensures p known.least known.greatest known.ranks known.checked k cell c.requires.span)
    (c.lower_ranks_come_first.ensures p known.least known.greatest known.ranks known.checked k cell c.requires.span)
    c.new-entry.result (is_ranked at) c.meet.result c.meet.new.listed.items c.args.split.choice (ranks_of c.args.chosen) c.new-entry.ensures.choice c.new-entry.ensures.ranks
    (subst (λ (goal : Goal). IfOk c.meet.result (λ is_in. is_in ≡ false → IsBehind goal k c.meet.new.listed.items c.new-entry.result)) (sym (goal_is at)) c.meet.ensures.out)

pub returns-clause-front : goal.returns-clause-front
returns-clause-front c =
    let at = (goal.at.returns-clause-front c).After-goal in
    let p = c.args.split.lines.now in
    let old = c.args.listed.now.items in
    let new = c.meet.new.listed.items in
    if_ok c.meet.result
    (λ _. (place : ℕ) (other : Entry) → IsAt old place other → EntryPrecedes c.goal.result other c.new-entry.result → IsAt new place other)
    (λ _. (place : ℕ) (other : Entry) → IsAt old place other
    → ((entry : Entry) → IsRankedSplit p c.args.split.k c.args.split.cell entry → entry.choice ≡ c.args.split.choice → entry.ranks ≡ ranks_of c.args.chosen
    → EntryPrecedes (algebra_of p).goal other entry) → IsAt new place other)
    (λ _ front place other stands each. front place other stands
    (subst (λ (goal : Goal). EntryPrecedes goal other c.new-entry.result) (goal_is at)
    (each c.new-entry.result (is_ranked at) c.new-entry.ensures.choice c.new-entry.ensures.ranks)))
    c.meet.ensures.front
