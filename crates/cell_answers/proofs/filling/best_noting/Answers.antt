use Rattle.std.proofs.Common.{◌≡◌, ◌+◌, ◌<◌, ◌≤◌, ℕ, None, List, [], ◌∷◌, length, get_or, FitsSigned, w64, sym, ap, subst, ◌∙◌, arith, rules}
use Rattle.std.proofs.lemmas.Int.{to_z-of_z}
use Rattle.adp_model.specs.PosedProblem.{PosedProblem}
use Rattle.adp_model.specs.ProblemFields.{IsAdmissible}
use Rattle.adp_model.specs.Parts.{algebra_of, alternatives_of, arguments_of}
use Rattle.score_numbers.specs.Greatest.{IsGreatestOf}
use Rattle.score_numbers.specs.Turned.{turned}
use Rattle.split_lines.specs.Beginnings.{IsCandidate}
use Rattle.cell_answers.specs.CellBest.{IsBestOfFirst, IsCellBest, GiveNone, IsFirstGiving}
use Rattle.cell_answers.proofs.Bounding.{best_within}
use Rattle.cell_answers.specs.Totals.{HasTurnedScore}
use Rattle.cell_answers.proofs.FirstGiving.{none_given, best_given, passed_over}
use Rattle.cell_answers.proofs.FrontScores.{no_score_closed}
use Rattle.cell_answers.proofs.Alternatives.{score_low}
use Rattle.cell_answers.proofs.filling.best_noting.Goals as goal
use Rattle.cell_answers.proofs.filling.best_noting.Goals.{After-goal-goal, After-candidates-candidates, In-Some}

admissible : (c : After-goal-goal) → IsAdmissible c.args.lines.now
admissible c = let A : PosedProblem → Type 0 = IsAdmissible in subst A c.problem-problem.ensures c.admissible.ensures

count_is : (c : After-candidates-candidates) → length c.candidates-candidates.result.alternatives.now
    ≡ length (alternatives_of c.args.lines.now.grammar c.args.cell.rule)
count_is c = c.candidates-candidates.ensures.each

goal_is : (c : After-goal-goal) → c.goal-goal.result ≡ (algebra_of c.args.lines.now).goal
goal_is c = c.goal-goal.ensures ∙ ap (λ (p : PosedProblem). (algebra_of p).goal) c.problem-problem.ensures

few : (c : After-goal-goal) → length (alternatives_of c.args.lines.now.grammar c.args.cell.rule) ≤ 64
few c = c.alternatives_fit.ensures.few c.args.lines.now.grammar (admissible c).checked.well_formed c.args.cell.rule

-- what laws tell of the cell's alternatives
abbrev AreSome : (c : After-goal-goal) → Type 0
AreSome c =
    (alternative : ℕ) → alternative < length (alternatives_of c.args.lines.now.grammar c.args.cell.rule)
    → 1 ≤ length (arguments_of c.args.lines.now.grammar c.args.cell.rule alternative)

some : (c : After-goal-goal) → AreSome c
some c alternative in_range =
    c.alternatives_fit.ensures.arguments c.args.lines.now.grammar (admissible c).checked.well_formed c.args.cell.rule alternative in_range

four : (c : After-goal-goal) (alternative : ℕ) → length (arguments_of c.args.lines.now.grammar c.args.cell.rule alternative) ≤ 4
four c alternative = c.arguments_are_few_and_known.ensures.few c.args.lines.now.grammar (admissible c).checked.well_formed c.args.cell.rule alternative

pub overflow_cast-alt : goal.overflow_cast-alt
overflow_cast-alt c =
    let at = (goal.at.overflow_cast-alt c).After-goal-goal in
    let at' = (goal.at.overflow_cast-alt c).After-candidates-candidates in
    omega (arith, few at, count_is at', c.loop-number-test.true)

by_item : {X Y : Type 0} (xs : List X) (k : ℕ) → k < length xs → (X → Y) → Y
by_item [] k l told = absurd (omega arith)
by_item (x ∷ xs) k l told = told x

some_here : (c : After-candidates-candidates) (alternative : ℕ)
    → alternative < length (alternatives_of c.args.lines.now.grammar c.args.cell.rule)
    → 1 ≤ length (arguments_of c.args.lines.now.grammar c.args.cell.rule alternative)
some_here c alternative in_range =
    let A : PosedProblem → Type 0 = IsAdmissible in
    let admissible : IsAdmissible c.args.lines.now = subst A c.problem-problem.ensures c.admissible.ensures in
    c.alternatives_fit.ensures.arguments c.args.lines.now.grammar admissible.checked.well_formed c.args.cell.rule alternative in_range

-- the alternatives that are passed over give nothing
none_between : (c : After-candidates-candidates) (first next : ℕ) → next ≤ length c.candidates-candidates.result.alternatives.now
    → ((other : ℕ) → first ≤ other → other < next → IsCandidate c.candidates-candidates.result other → ⊥)
    → (alternative : ℕ) → first ≤ alternative → alternative < next → IsGreatestOf (HasTurnedScore c.args.lines.now c.args.cell alternative) None
none_between c first next within none alternative from before =
    let told = c.candidates-candidates.ensures in
    let alternatives = c.candidates-candidates.result.alternatives.now in
    let there : alternative < length alternatives = omega arith in
    let in_range : alternative < length (alternatives_of c.args.lines.now.grammar c.args.cell.rule) = omega (arith, count_is c) in
    by_item alternatives alternative there (λ d.
    no_score_closed c.args.lines.now c.args.cell alternative (get_or alternatives alternative d)
    (told.are alternative d there) in_range (some_here c alternative in_range)
    (told.others alternative d there (none alternative from before)))

pub loop-number-init : goal.loop-number-init
loop-number-init c =
    let at = (goal.at.loop-number-init c).After-candidates-candidates in
    let first = c.next-number.result in
    record {
      within = c.next-number.ensures.within;
      same = c.requires.same_tails;
      best = passed_over c.args.lines.now c.args.cell 0 first None (omega arith)
          (none_between at 0 first c.next-number.ensures.within c.next-number.ensures.none_before)
          (λ other number l has. absurd (omega arith));
    }

pub loop-number-preserved : goal.loop-number-preserved
loop-number-preserved c =
    let at = (goal.at.loop-number-preserved c).After-candidates-candidates in
    let number = c.loop-number.number in
    let next = c.next-number-in-loop-number.result in
    record {
      within = c.next-number-in-loop-number.ensures.within;
      same = c.alternative_score-score.ensures.same ∙ c.loop-number.invariant.same;
      best =
          passed_over c.args.lines.now c.args.cell (number + 1) next c.better-best.result
          c.next-number-in-loop-number.ensures.from_number
          (none_between at (number + 1) next c.next-number-in-loop-number.ensures.within
          c.next-number-in-loop-number.ensures.none_before)
          (c.better-best.ensures c.args.lines.now c.args.cell c.loop-number.invariant.best c.alternative_score-score.ensures.greatest);
    }

pub loop-number-smaller : goal.loop-number-smaller
loop-number-smaller c = omega (arith, c.next-number-in-loop-number.ensures.from_number, c.loop-number-test.true)

pub returns-in_default-clause-best : goal.returns-in_default-clause-best
returns-in_default-clause-best c =
    let at = (goal.at.returns-in_default-clause-best c).After-goal-goal in
    let at' = (goal.at.returns-in_default-clause-best c).After-candidates-candidates in
    let p = c.args.lines.now in
    let count : c.loop-number.number ≡ length (alternatives_of p.grammar c.args.cell.rule) =
    omega (arith, count_is at', c.loop-number-test.false, c.loop-number.invariant.within) in
    let here : GiveNone p c.args.cell c.loop-number.number = subst (IsBestOfFirst p c.args.cell c.loop-number.number)
    c.in_default.is c.loop-number.invariant.best in
    none_given p (c.bellman.ensures.admissible p (admissible at)) c.args.cell c.requires.in_word (some at) (four at) (subst (GiveNone p c.args.cell) count here)

-- what the loop has found
found : (c : In-Some) → IsFirstGiving c.args.lines.now c.args.cell c.loop-number.number c.in-Some.field-0.score c.in-Some.field-0.alt
found c = subst (IsBestOfFirst c.args.lines.now c.args.cell c.loop-number.number) c.in-Some.is c.loop-number.invariant.best

pub turned-requires : goal.turned-requires
turned-requires c =
    let at = (goal.at.turned-requires c).After-goal-goal in
    let at' = (goal.at.turned-requires c).After-candidates-candidates in
    let p = c.args.lines.now in
    let count : c.loop-number.number ≤ length (alternatives_of p.grammar c.args.cell.rule) =
    omega (arith, count_is at', c.loop-number-test.false, c.loop-number.invariant.within) in
    let it = found c in
    let fits_score : FitsSigned w64 c.in-Some.field-0.score = search rules in
    simp to_z-of_z (score_low (record {
      rises = c.magnitudes_rise.ensures;
      within = c.values_are_within_magnitudes.ensures;
    }) p (admissible at)
    (best_within p (admissible at) (c.bounds_are_sound.ensures.score p)) c.args.cell c.loop-number.number
    c.in-Some.field-0.score c.requires.in_word c.requires.rule count (c.in-Some.field-0.alt, it.before, it.gives))

pub returns-clause-best : goal.returns-clause-best
returns-clause-best c =
    let at = (goal.at.returns-clause-best c).After-goal-goal in
    let at' = (goal.at.returns-clause-best c).After-candidates-candidates in
    let here = (goal.at.returns-clause-best c).In-Some in
    let p = c.args.lines.now in
    let score = c.in-Some.field-0.score in
    let count : c.loop-number.number ≡ length (alternatives_of p.grammar c.args.cell.rule) =
    omega (arith, count_is at', c.loop-number-test.false, c.loop-number.invariant.within) in
    let G : ℕ → Type 0 = λ n. IsFirstGiving p c.args.cell n score c.in-Some.field-0.alt in
    let given = best_given p (c.bellman.ensures.admissible p (admissible at)) c.args.cell c.requires.in_word (some at)
    (four at) score c.in-Some.field-0.alt (subst G count (found here)) in
    let fits_score : FitsSigned w64 score = search rules in
    let fits_turned : FitsSigned w64 c.turned.result = search rules in
    let told : c.turned.result ≡ turned c.goal-goal.result score = simp to_z-of_z at c.turned.ensures in
    let is : turned (algebra_of p).goal score ≡ c.turned.result = sym (told ∙ ap (λ goal. turned goal score) (goal_is at)) in
    simp to_z-of_z (subst (λ number. IsCellBest p c.args.cell number c.in-Some.field-0.alt) is given)

pub returns-in_default-clause-same : goal.returns-in_default-clause-same
returns-in_default-clause-same c = c.loop-number.invariant.same ∙ sym c.requires.same_tails

pub returns-clause-same : goal.returns-clause-same
returns-clause-same c = c.loop-number.invariant.same ∙ sym c.requires.same_tails
