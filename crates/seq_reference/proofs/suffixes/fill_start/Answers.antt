use Rattle.std.proofs.Common.{◌≡◌, ℕ, ◌≤◌, length, sym, ap, subst, ◌∙◌, arith}
use Rattle.std.proofs.lemmas.Option.{slice_get_within}
use Rattle.adp_model.specs.declared.cell.Cell.{Cell}
use Rattle.adp_model.specs.PosedProblem.{PosedProblem}
use Rattle.adp_model.specs.Demand.{IsBelow, IsDemanded, IsDemandedChild}
use Rattle.cell_answers.specs.Entries.{HasEntry}
use Rattle.seq_reference.proofs.Sweeps.{Counted}
use Rattle.seq_reference.proofs.VisitedFills.{children_filled, is_demanded, none_filled, one_more, start_filled}
use Rattle.seq_reference.proofs.suffixes.fill_start.Goals as goal
use Rattle.seq_reference.proofs.suffixes.fill_start.Goals.{After-letters}

counted : (c : After-letters) → (cell : Cell) → IsDemanded c.args.lines.now cell → Counted c.args.lines.now cell
counted c =
    let D : PosedProblem → Type 0 = λ p. (cell : Cell) → IsDemanded p cell → Counted p cell in
    subst D c.problem-problem.ensures
    (c.demanded_cells_are_counted.ensures c.problem-problem.result.now c.admissible.ensures.checked.well_formed)

below : (c : After-letters) → (cell child : Cell) → IsDemandedChild c.args.lines.now cell child
    → IsBelow c.admissible.ensures.ranks child cell
below c =
    let it = c.admissible.ensures in
    let B : PosedProblem → Type 0 = λ p. (cell child : Cell) → IsDemandedChild p cell child → IsBelow it.ranks child cell in
    subst B c.problem-problem.ensures
    (c.demanded_children_are_below.ensures c.problem-problem.result.now it.least it.greatest it.ranks it.checked)

at_end : (c : After-letters) → (cell : Cell) → IsDemanded c.args.lines.now cell → cell.to ≡ length c.args.lines.now.word
at_end c = c.demanded_cells_end_with_the_word.ensures c.args.lines.now c.requires.visited.straight

-- the order has a number for each rule
few : (c : After-letters) → length c.args.visits.now.order ≤ 128
few c =
    let L : PosedProblem → Type 0 = λ q. length q.grammar.rules ≤ 128 in
    let rules : length c.args.lines.now.grammar.rules ≤ 128 =
    subst L c.problem-problem.ensures
    (c.numbers_fit_together.ensures.few_rules c.problem-problem.result.now.grammar c.admissible.ensures.checked.well_formed) in
    omega (arith, c.requires.visited.ranked.each, rules)

-- the word has so many letters
whole : (c : After-letters) → length c.args.lines.now.word ≡ length c.letters.result.now
whole c = ap (λ (q : PosedProblem). length q.word) (sym c.problem-problem.ensures) ∙ sym (ap length c.letters.ensures.word)

abbrev ended : (c : After-letters) → ℕ → Cell
ended c rule = record { rule = rule; from = c.args.from; to = length c.args.lines.now.word }

same_cell : (c : After-letters) (rule : ℕ)
    → ended c rule ≡ record { rule = rule; from = c.args.from; to = length c.letters.result.now }
same_cell c rule = λ i. record { rule = rule; from = c.args.from; to = whole c i }

pub loop-number-init : goal.loop-number-init
loop-number-init c =
    let at = (goal.at.loop-number-init c).After-letters in
    none_filled c.args.lines.now (counted at) (at_end at) c.args.visits.now c.requires.visited c.args.from c.args.scores.now c.requires.filled

pub rule-requires : goal.rule-requires
rule-requires c = slice_get_within c.args.visits.now.order c.in-Some.number c.in-Some.ensures.visited.rule c.in-Some.ensures.visited.stands

pub fill-requires-clause-same_problem : goal.fill-requires-clause-same_problem
fill-requires-clause-same_problem c = c.loop-number.invariant.problem

pub fill-requires-clause-rule : goal.fill-requires-clause-rule
fill-requires-clause-rule c =
    let at = (goal.at.fill-requires-clause-rule c).After-letters in
    let demanded = is_demanded c.args.lines.now (counted at) (at_end at) c.args.visits.now c.requires.visited c.args.from
    c.loop-number.least c.in-Some.number c.rule.result c.in-Some.ensures c.rule.ensures in
    (counted at (ended at c.rule.result) demanded).rule

pub fill-requires-clause-in_word : goal.fill-requires-clause-in_word
fill-requires-clause-in_word c =
    let at = (goal.at.fill-requires-clause-in_word c).After-letters in
    record { in_order = omega (arith, whole at, c.requires.from); in_word = omega (arith, whole at) }

pub fill-requires-clause-counted : goal.fill-requires-clause-counted
fill-requires-clause-counted c =
    let at = (goal.at.fill-requires-clause-counted c).After-letters in
    let demanded = is_demanded c.args.lines.now (counted at) (at_end at) c.args.visits.now c.requires.visited c.args.from
    c.loop-number.least c.in-Some.number c.rule.result c.in-Some.ensures c.rule.ensures in
    subst (Counted c.args.lines.now) (same_cell at c.rule.result) (counted at (ended at c.rule.result) demanded)

pub fill-requires-clause-scored : goal.fill-requires-clause-scored
fill-requires-clause-scored c = λ child is.
    let at = (goal.at.fill-requires-clause-scored c).After-letters in
    children_filled c.args.lines.now (counted at) (at_end at) c.args.visits.now c.requires.visited c.args.from
    c.loop-number.least c.in-Some.number c.rule.result c.in-Some.ensures c.rule.ensures c.admissible.ensures.ranks (below at)
    c.loop-number.scores c.loop-number.invariant child
    (subst (λ cell. IsDemandedChild c.args.lines.now cell child) (sym (same_cell at c.rule.result)) is)

pub overflow_add-least : goal.overflow_add-least
overflow_add-least c =
    let at = (goal.at.overflow_add-least c).After-letters in
    omega (arith, few at, slice_get_within c.args.visits.now.order c.in-Some.number c.rule.result c.rule.ensures)

pub loop-number-smaller : goal.loop-number-smaller
loop-number-smaller c =
    let at = (goal.at.loop-number-smaller c).After-letters in
    omega (arith, few at, slice_get_within c.args.visits.now.order c.in-Some.number c.rule.result c.rule.ensures, c.in-Some.ensures.from_least)

pub loop-number-preserved : goal.loop-number-preserved
loop-number-preserved c =
    let at = (goal.at.loop-number-preserved c).After-letters in
    one_more c.args.lines.now (counted at) (at_end at) c.args.visits.now c.requires.visited c.args.from
    c.loop-number.least c.in-Some.number c.rule.result c.in-Some.ensures c.rule.ensures c.loop-number.scores c.fill.new.self
    c.loop-number.invariant c.fill.ensures.problem
    (subst (HasEntry c.fill.new.self) (sym (same_cell at c.rule.result)) c.fill.ensures.kept) c.fill.ensures.others

pub returns : goal.returns
returns c =
    let at = (goal.at.returns c).After-letters in
    start_filled c.args.lines.now (counted at) (at_end at) c.args.visits.now c.requires.visited c.args.from
    c.loop-number.least c.loop-number.scores c.in_default.ensures c.loop-number.invariant
