use Rattle.std.proofs.Common.{◌≡◌, ◌+◌, ◌<◌, ◌≤◌, ℕ, ℤ, Some, List, [], ◌∷◌, ap, length, get_or, take, nat_abs}
use Rattle.std.proofs.Common.{FitsSigned, w64, to_z, of_z, sym, subst, ◌∙◌, arith, rules}
use Rattle.std.proofs.lemmas.Int.{to_z-of_z}
use Rattle.adp_model.specs.declared.grammar.Arg.{Arg}
use Rattle.adp_model.specs.declared.grammar.Goal.{Goal}
use Rattle.adp_model.specs.declared.grammar.Term.{Term}
use Rattle.adp_model.specs.declared.cell.Answer.TheVariants.{Best}
use Rattle.adp_model.specs.PosedProblem.{PosedProblem}
use Rattle.adp_model.specs.ProblemFields.{greatest_score, IsAdmissible}
use Rattle.adp_model.specs.Parts.{algebra_of, alternatives_of, arguments_of, term_of}
use Rattle.adp_model.specs.Bellman.{Bellman}
use Rattle.score_numbers.specs.Greatest.{IsGreatestOf}
use Rattle.score_numbers.specs.Turned.{turned}
use Rattle.cell_answers.specs.TermScores.{AreFirstTermEnds, HasTermScore}
use Rattle.cell_answers.proofs.Alternatives.{score_low}
use Rattle.cell_answers.proofs.BestSplits.{best_allowed, best_gives, score_greatest}
use Rattle.cell_answers.proofs.Bounding.{AreTermLaws}
use Rattle.cell_answers.proofs.FirstEnds.{AreSound}
use Rattle.cell_answers.proofs.LaidEnds.{four_read}
use Rattle.cell_answers.proofs.Scoring.{turned_low}
use Rattle.cell_answers.proofs.Soundness.{sound_of}
use Rattle.cell_answers.proofs.TermAlternatives.{term_laid}
use Rattle.cell_answers.proofs.TermScores.{AreTermLaid}
use Rattle.cell_answers.proofs.TermSplits.{answer_by_term_ends}
use Rattle.cell_answers.proofs.by_term.cuts_by_term.Goals as goal
use Rattle.cell_answers.proofs.by_term.cuts_by_term.Goals.{After-arguments-arguments}

laws : After-arguments-arguments → AreTermLaws
laws c = record { rises = c.magnitudes_rise.ensures; within = c.values_are_within_magnitudes.ensures }

admissible : (c : After-arguments-arguments) → IsAdmissible c.args.lines.now
admissible c = let A : PosedProblem → Type 0 = IsAdmissible in subst A c.problem-problem.ensures c.admissible.ensures

bellman : (c : After-arguments-arguments) → Bellman c.args.lines.now
bellman c = c.bellman.ensures.admissible c.args.lines.now (admissible c)

sound : (c : After-arguments-arguments) → AreSound c.args.lines.now
sound c = sound_of c.args.lines.now (admissible c) (c.bounds_are_sound.ensures.score c.args.lines.now) (c.answer_is_unique.ensures c.args.lines.now)

some : (c : After-arguments-arguments) (alternative : ℕ) → alternative < length (alternatives_of c.args.lines.now.grammar c.args.cell.rule)
    → 1 ≤ length (arguments_of c.args.lines.now.grammar c.args.cell.rule alternative)
some c alternative in_range =
    c.alternatives_fit.ensures.arguments c.args.lines.now.grammar (admissible c).checked.well_formed c.args.cell.rule alternative in_range

few : (c : After-arguments-arguments) (alternative : ℕ) → length (arguments_of c.args.lines.now.grammar c.args.cell.rule alternative) ≤ 4
few c alternative = c.arguments_are_few_and_known.ensures.few c.args.lines.now.grammar (admissible c).checked.well_formed c.args.cell.rule alternative

-- the best alternative is one of the rule's
in_range : (c : After-arguments-arguments) → c.args.best.alt < length (alternatives_of c.args.lines.now.grammar c.args.cell.rule)
in_range c =
    let best = c.requires.best in
    ((bellman c).only c.args.cell (Best c.args.best.score (record { alt = c.args.best.alt; cuts = best.0 })) c.requires.in_word best.1).1.viable.in_range

abbrev the_goal : After-arguments-arguments → Goal
the_goal c = (algebra_of c.args.lines.now).goal

abbrev the_arguments : After-arguments-arguments → List Arg
the_arguments c = arguments_of c.args.lines.now.grammar c.args.cell.rule c.args.best.alt

arguments_are : (c : After-arguments-arguments) → c.arguments-arguments.result.now ≡ the_arguments c
arguments_are c =
    c.arguments-arguments.ensures.arguments ∙ ap (λ (q : PosedProblem). arguments_of q.grammar c.args.cell.rule c.args.best.alt) c.problem-problem.ensures

laid : (c : After-arguments-arguments) → AreTermLaid c.args.lines.now c.args.scores.now c.args.term.now []
    c.arguments-arguments.result.now c.args.cell.from c.args.cell.to
laid c =
    let p = c.args.lines.now in
    let checked = (admissible c).checked in
    let rule = c.args.cell.rule in
    let alt = c.args.best.alt in
    let there = c.terms_have_their_values.ensures (length (the_arguments c)) (term_of p rule alt)
    (c.terms_fit_their_alternatives.ensures.fit p.grammar checked.well_formed p.algebra rule alt checked.algebra_known (in_range c)) in
    term_laid (laws c) p (admissible c) (c.words_keep_their_score_bound.ensures.token p) c.args.cell alt c.requires.in_word c.requires.rule (in_range c)
    (best_allowed p (bellman c) c.args.cell c.requires.in_word (some c) (few c) alt (in_range c) c.args.best.score c.requires.best)
    c.args.scores.now (c.arguments_are_few_and_known.ensures.known p.grammar checked.well_formed rule alt) (few c alt) there c.requires.scored
    c.arguments-arguments.result.now (arguments_are c) c.args.term.now c.requires.term

score_is_low : (c : After-arguments-arguments) → nat_abs c.args.best.score ≤ greatest_score
score_is_low c =
    let p = c.args.lines.now in
    let gives = best_gives p (bellman c) c.args.cell c.requires.in_word (some c) (few c) c.args.best.alt (in_range c) c.args.best.score c.requires.best in
    let within : c.args.best.alt + 1 ≤ length (alternatives_of p.grammar c.args.cell.rule) = omega (arith, in_range c) in
    let low = score_low (laws c) p (admissible c) (sound c).within c.args.cell (c.args.best.alt + 1)
    (turned (the_goal c) c.args.best.score) c.requires.in_word c.requires.rule within
    (c.args.best.alt, omega arith, gives) in
    let same_size = turned_low (the_goal c) c.args.best.score in
    omega arith

pub turned-score-requires : goal.turned-score-requires
turned-score-requires c =
    let fits : FitsSigned w64 c.args.best.score = search rules in
    simp to_z-of_z (score_is_low (goal.at.turned-score-requires c).After-arguments-arguments)

-- the score, turned, as it is found and read
turned_is : (c : After-arguments-arguments) (goal : Goal) (found : ℤ)
    → goal ≡ (algebra_of c.problem-problem.result.now).goal → found ≡ turned goal c.args.best.score
    → FitsSigned w64 found
    → to_z w64 (of_z w64 found) ≡ turned (the_goal c) c.args.best.score
turned_is c goal found goal_is is fits =
    to_z-of_z w64 found fits ∙ is ∙ ap (λ goal. turned goal c.args.best.score)
    (goal_is ∙ ap (λ (q : PosedProblem). (algebra_of q).goal) c.problem-problem.ensures)

pub ends_by_term-requires-clause-arguments : goal.ends_by_term-requires-clause-arguments
ends_by_term-requires-clause-arguments c = (laid (goal.at.ends_by_term-requires-clause-arguments c).After-arguments-arguments).are

pub ends_by_term-requires-clause-scored : goal.ends_by_term-requires-clause-scored
ends_by_term-requires-clause-scored c = (laid (goal.at.ends_by_term-requires-clause-scored c).After-arguments-arguments).scored

pub ends_by_term-requires-clause-greatest : goal.ends_by_term-requires-clause-greatest
ends_by_term-requires-clause-greatest c =
    let at = (goal.at.ends_by_term-requires-clause-greatest c).After-arguments-arguments in
    let p = c.args.lines.now in
    let fits_score : FitsSigned w64 c.args.best.score = search rules in
    let fits_turned : FitsSigned w64 c.turned-score.result = search rules in
    let found : c.turned-score.result ≡ turned c.goal.result c.args.best.score = simp to_z-of_z at c.turned-score.ensures in
    let G : ℤ → Term → List Arg → Type 0 = λ score term arguments.
    IsGreatestOf (HasTermScore p term [] arguments c.args.cell.from c.args.cell.to) (Some score) in
    subst (λ score. G score c.args.term.now c.arguments-arguments.result.now)
    (sym (turned_is at c.goal.result c.turned-score.result c.goal.ensures found fits_turned))
    (subst (λ arguments. G (turned (the_goal at) c.args.best.score) c.args.term.now arguments) (sym (arguments_are at))
    (subst (λ term. G (turned (the_goal at) c.args.best.score) term (the_arguments at)) (sym c.requires.term)
    (score_greatest p (bellman at) c.args.cell c.requires.in_word (some at) (few at) c.args.best.alt (in_range at) c.args.best.score c.requires.best)))

pub returns : goal.returns
returns c =
    let at = (goal.at.returns c).After-arguments-arguments in
    let p = c.args.lines.now in
    let long : length c.arguments-arguments.result.now ≤ 4 = c.arguments-arguments.ensures.few in
    let four : length c.ends_by_term.result ≡ 4 = search rules in
    let ends = get_or c.ends_by_term.result 0 0 ∷ get_or c.ends_by_term.result 1 0 ∷ get_or c.ends_by_term.result 2 0 ∷ get_or c.ends_by_term.result 3 0 ∷ [] in
    let fits_score : FitsSigned w64 c.args.best.score = search rules in
    let fits_turned : FitsSigned w64 c.turned-score.result = search rules in
    let found : c.turned-score.result ≡ turned c.goal.result c.args.best.score = simp to_z-of_z at c.turned-score.ensures in
    let read = turned_is at c.goal.result c.turned-score.result c.goal.ensures found fits_turned in
    let F : Term → List Arg → ℤ → List ℕ → Type 0 = λ term arguments score ends. AreFirstTermEnds p term [] arguments
    c.args.cell.from c.args.cell.to score ends in
    let all = c.arguments-arguments.result.now in
    let there = subst (λ score. F c.args.term.now all score (take 4 c.ends_by_term.result)) read (c.ends_by_term.ensures 4 long (omega arith)) in
    let score = turned (the_goal at) c.args.best.score in
    let four_there = subst (λ them. F c.args.term.now all score them) (four_read c.ends_by_term.result four) there in
    let first = subst (λ term. F term (the_arguments at) score ends) c.requires.term
    (subst (λ arguments. F c.args.term.now arguments score ends) (arguments_are at) four_there) in
    answer_by_term_ends p (bellman at) c.args.cell c.requires.in_word (some at) (few at) c.args.best.alt (in_range at) c.args.best.score c.requires.best
    (get_or c.ends_by_term.result 0 0) (get_or c.ends_by_term.result 1 0) (get_or c.ends_by_term.result 2 0) (get_or c.ends_by_term.result 3 0) first
