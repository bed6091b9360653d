use Rattle.std.proofs.Common.{◌≡◌, ◌↔◌, ◌+◌, ◌-◌, ◌<◌, ◌≤◌, ℕ, ℤ, IsTrue, Some, length, nat_abs, FitsSigned, w64, inl, inr, sym, ap, subst, ◌∙◌, arith, rules}
use Rattle.std.proofs.lemmas.Bool.{false≢true}
use Rattle.std.proofs.lemmas.Int.{to_z-of_z}
use Rattle.adp_model.specs.declared.cell.Answer.TheVariants.{Best}
use Rattle.adp_model.specs.PosedProblem.{PosedProblem}
use Rattle.adp_model.specs.ProblemFields.{greatest_score, IsAdmissible}
use Rattle.adp_model.specs.Parts.{algebra_of, alternatives_of, arguments_of}
use Rattle.adp_model.specs.Bellman.{Bellman, HasBestScore}
use Rattle.score_numbers.specs.Greatest.{IsGreatestOf}
use Rattle.score_numbers.specs.Turned.{turned}
use Rattle.cell_answers.specs.CellBest.{IsCellBest}
use Rattle.cell_answers.specs.Totals.{HasTurnedScore}
use Rattle.cell_answers.proofs.Alternatives.{score_low}
use Rattle.cell_answers.proofs.Bounding.{best_within}
use Rattle.cell_answers.proofs.FirstEnds.{AreSound}
use Rattle.cell_answers.proofs.FirstGiving.{first_is, gives_other, none_further}
use Rattle.cell_answers.proofs.Scoring.{scored_in, turned_low}
use Rattle.cell_answers.proofs.Soundness.{sound_of}
use Rattle.cell_answers.proofs.filling.first_giving.Goals as goal
use Rattle.cell_answers.proofs.filling.first_giving.Goals.{After-goal, After-turned-sought, After-candidates-candidates}

admissible : (c : After-goal) → IsAdmissible c.args.lines.now
admissible c = let A : PosedProblem → Type 0 = IsAdmissible in subst A c.problem-problem.ensures c.admissible.ensures

bellman : (c : After-goal) → Bellman c.args.lines.now
bellman c = c.bellman.ensures.admissible c.args.lines.now (admissible c)

some : (c : After-goal) (alternative : ℕ) → alternative < length (alternatives_of c.args.lines.now.grammar c.args.cell.rule)
    → 1 ≤ length (arguments_of c.args.lines.now.grammar c.args.cell.rule alternative)
some c alternative in_range =
    c.alternatives_fit.ensures.arguments c.args.lines.now.grammar (admissible c).checked.well_formed c.args.cell.rule alternative in_range

few : (c : After-goal) (alternative : ℕ) → length (arguments_of c.args.lines.now.grammar c.args.cell.rule alternative) ≤ 4
few c alternative = c.arguments_are_few_and_known.ensures.few c.args.lines.now.grammar (admissible c).checked.well_formed c.args.cell.rule alternative

few_alternatives : (c : After-goal) → length (alternatives_of c.args.lines.now.grammar c.args.cell.rule) ≤ 64
few_alternatives c = c.alternatives_fit.ensures.few c.args.lines.now.grammar (admissible c).checked.well_formed c.args.cell.rule

one_or_more : (c : After-goal) → 1 ≤ length (alternatives_of c.args.lines.now.grammar c.args.cell.rule)
one_or_more c = c.alternatives_fit.ensures.some c.args.lines.now.grammar (admissible c).checked.well_formed c.args.cell.rule c.requires.rule

-- the score, turned
abbrev the_sought : After-goal → ℤ
the_sought c = turned (algebra_of c.args.lines.now).goal c.args.score

score_is_low : (c : After-goal) → nat_abs c.args.score ≤ greatest_score
score_is_low c =
    let p = c.args.lines.now in
    let choice = c.requires.best.0 in
    let first = ((bellman c).only c.args.cell (Best c.args.score choice) c.requires.in_word c.requires.best.1).1 in
    let gives = scored_in p (bellman c) c.args.cell c.requires.in_word (some c) (few c) c.args.score choice first in
    let within : choice.alt + 1 ≤ length (alternatives_of p.grammar c.args.cell.rule) = omega (arith, first.viable.in_range) in
    let low = score_low (record { rises = c.magnitudes_rise.ensures; within = c.values_are_within_magnitudes.ensures })
    p (admissible c) (best_within p (admissible c) (c.bounds_are_sound.ensures.score p)) c.args.cell
    (choice.alt + 1) (the_sought c) c.requires.in_word c.requires.rule within (choice.alt, omega arith, gives) in
    let same_size = turned_low (algebra_of p).goal c.args.score in
    omega arith

pub turned-sought-requires : goal.turned-sought-requires
turned-sought-requires c =
    let fits : FitsSigned w64 c.args.score = search rules in
    simp to_z-of_z (score_is_low (goal.at.turned-sought-requires c).After-goal)

-- as it is found
sought_is : (c : After-turned-sought) → c.turned-sought.result ≡ turned (algebra_of c.args.lines.now).goal c.args.score
sought_is c =
    let fits : FitsSigned w64 c.args.score = search rules in
    let found : c.turned-sought.result ≡ turned c.goal.result c.args.score = simp to_z-of_z at c.turned-sought.ensures in
    found ∙ ap (λ goal. turned goal c.args.score) (c.goal.ensures ∙ ap (λ (q : PosedProblem). (algebra_of q).goal) c.problem-problem.ensures)

sound : (c : After-goal) → AreSound c.args.lines.now
sound c = sound_of c.args.lines.now (admissible c) (c.bounds_are_sound.ensures.score c.args.lines.now) (c.answer_is_unique.ensures c.args.lines.now)

count_is : (c : After-candidates-candidates) → length c.candidates-candidates.result.alternatives.now
    ≡ length (alternatives_of c.args.lines.now.grammar c.args.cell.rule)
count_is c = c.candidates-candidates.ensures.each

pub overflow_sub-last : goal.overflow_sub-last
overflow_sub-last c =
    let at = (goal.at.overflow_sub-last c).After-goal in
    let at' = (goal.at.overflow_sub-last c).After-candidates-candidates in
    omega (arith, one_or_more at, count_is at')

pub overflow_cast-alt : goal.overflow_cast-alt
overflow_cast-alt c =
    let at = (goal.at.overflow_cast-alt c).After-goal in
    let at' = (goal.at.overflow_cast-alt c).After-candidates-candidates in
    omega (arith, few_alternatives at, count_is at', c.loop-number-test.true)

pub overflow_cast-result : goal.overflow_cast-result
overflow_cast-result c =
    let at = (goal.at.overflow_cast-result c).After-goal in
    let at' = (goal.at.overflow_cast-result c).After-candidates-candidates in
    omega (arith, few_alternatives at, count_is at')

-- what is no candidate has no viable split
pub candidate_score-given-requires-clause-others : goal.candidate_score-given-requires-clause-others
candidate_score-given-requires-clause-others c = λ none.
    let told = c.candidates-candidates.ensures in
    let alternatives = c.candidates-candidates.result.alternatives.now in
    let number = c.loop-number.number in
    let there : number < length alternatives = omega (arith, c.loop-number-test.true) in
    told.others number c.index-candidates-number.result there none

pub loop-number-init : goal.loop-number-init
loop-number-init c = record {
  same = c.none-tails.ensures ∙ c.problem-problem.ensures;
  none = λ other best l is has. absurd (omega arith);
}

-- none of the alternatives before this one gives the score
abbrev NoneGive : (c : After-goal) → ℕ → Type 0
NoneGive c count = (other : ℕ) → other < count → HasTurnedScore c.args.lines.now c.args.cell other (the_sought c) → ⊥

-- nor any other best score, since there is none
no_other : (c : After-goal) (count : ℕ) → NoneGive c count → (other : ℕ) (best : ℤ) → other < count → HasBestScore c.args.lines.now c.args.cell best
    → HasTurnedScore c.args.lines.now c.args.cell other (turned (algebra_of c.args.lines.now).goal best) → ⊥
no_other c count none other best l is has =
    let p = c.args.lines.now in
    none other l (subst (λ score. HasTurnedScore p c.args.cell other (turned (algebra_of p).goal score))
    ((sound c).one c.args.cell best c.args.score is c.requires.best) has)

pub loop-number-preserved : goal.loop-number-preserved
loop-number-preserved c =
    let at = (goal.at.loop-number-preserved c).After-goal in
    let found = (goal.at.loop-number-preserved c).After-turned-sought in
    let at' = (goal.at.loop-number-preserved c).After-candidates-candidates in
    let p = c.args.lines.now in
    let number = c.loop-number.number in
    let l : number < length (alternatives_of p.grammar c.args.cell.rule) = omega (arith, one_or_more at, count_is at', c.loop-number-test.true) in
    let fits : FitsSigned w64 c.turned-sought.result = search rules in
    let told : IsTrue c.is_score.result ↔ (c.candidate_score-given.result ≡ Some c.turned-sought.result) = simp to_z-of_z at c.is_score.ensures in
    let differs : c.candidate_score-given.result ≡ Some (the_sought at)
    → ⊥ = λ is. false≢true (sym c.if-is_score.false ∙ told.1 (is ∙ ap Some (sym (sought_is found)))) in
    let here = gives_other p (bellman at) c.args.cell c.requires.in_word (some at) (few at) c.args.score c.requires.best
    number c.candidate_score-given.result l c.candidate_score-given.ensures.greatest differs in
    let none : NoneGive at number = λ other before. c.loop-number.invariant.none other c.args.score before c.requires.best in
    record {
      same = c.candidate_score-given.ensures.same ∙ c.loop-number.invariant.same;
      none = no_other at (number + 1) (none_further p (bellman at) c.args.cell c.requires.in_word (some at) (few at)
          c.args.score c.requires.best number none here);
    }

pub returns-then-is_score : goal.returns-then-is_score
returns-then-is_score c =
    let at = (goal.at.returns-then-is_score c).After-goal in
    let found = (goal.at.returns-then-is_score c).After-turned-sought in
    let at' = (goal.at.returns-then-is_score c).After-candidates-candidates in
    let p = c.args.lines.now in
    let number = c.loop-number.number in
    let l : number < length (alternatives_of p.grammar c.args.cell.rule) = omega (arith, one_or_more at, count_is at', c.loop-number-test.true) in
    let fits : FitsSigned w64 c.turned-sought.result = search rules in
    let told : IsTrue c.is_score.result ↔ (c.candidate_score-given.result ≡ Some c.turned-sought.result) = simp to_z-of_z at c.is_score.ensures in
    let is : c.candidate_score-given.result ≡ Some (the_sought at) = told.0 c.if-is_score.true ∙ ap Some (sought_is found) in
    let gives = (subst (IsGreatestOf (HasTurnedScore p c.args.cell number)) is c.candidate_score-given.ensures.greatest).0 in
    let none : NoneGive at number = λ other before. c.loop-number.invariant.none other c.args.score before c.requires.best in
    first_is p (bellman at) c.args.cell c.requires.in_word (some at) (few at) c.args.score c.requires.best number l none (inl gives)

pub returns : goal.returns
returns c =
    let at = (goal.at.returns c).After-goal in
    let at' = (goal.at.returns c).After-candidates-candidates in
    let p = c.args.lines.now in
    let number = c.loop-number.number in
    let is_last : length (alternatives_of p.grammar c.args.cell.rule) ≡ number
    + 1 = omega (arith, one_or_more at, count_is at', c.loop-number-test.false, c.loop-number.auto.number-end) in
    let last_is : length c.candidates-candidates.result.alternatives.now - 1 ≡ number = omega (arith, is_last, count_is at') in
    let none : NoneGive at number = λ other before. c.loop-number.invariant.none other c.args.score before c.requires.best in
    let found = first_is p (bellman at) c.args.cell c.requires.in_word (some at) (few at) c.args.score c.requires.best
    number (omega (arith, is_last)) none (inr is_last) in
    subst (IsCellBest p c.args.cell c.args.score) (sym last_is) found
