use Rattle.std.proofs.Common.{drop, ◌≡◌, ◌<◌, ◌≤◌, ℕ, List, [], ◌∷◌, ◌++◌, length, length-take, nat_abs, ap, FitsSigned, w64, sym, subst, ◌∙◌, arith, rules}
use Rattle.std.specs.Prelude.{IfSome}
use Rattle.std.proofs.lemmas.Int.{to_z-of_z}
use Rattle.adp_model.specs.declared.grammar.Arg.{Arg}
use Rattle.adp_model.specs.declared.grammar.Goal.{Goal}
use Rattle.adp_model.specs.PosedProblem.{PosedProblem}
use Rattle.adp_model.specs.Parts.{algebra_of}
use Rattle.adp_model.specs.ProblemFields.{greatest_score}
use Rattle.adp_model.specs.Terms.{term_value}
use Rattle.adp_model.specs.Splits.{FitsSpan}
use Rattle.viable_splits.specs.Placing.{on_span, ArePositions}
use Rattle.split_lines.specs.Lines.{IsLine}
use Rattle.score_numbers.specs.Greatest.{IsGreatestOf}
use Rattle.score_numbers.specs.Turned.{turned}
use Rattle.cell_answers.specs.TermScores.{HasTermScore, first_values}
use Rattle.cell_answers.proofs.FirstEnds.{AreSound}
use Rattle.cell_answers.proofs.Soundness.{sound_by}
use Rattle.cell_answers.proofs.TermScores.{AreTermLaid, all_found, first_low, found_more, low_here, none_first, rest_laid, score_here, unvalued_more}
use Rattle.cell_answers.proofs.by_term.+greatest_by_term.Goals as goal
use Rattle.cell_answers.proofs.by_term.+greatest_by_term.Goals.{After-answer_is_unique, After-ends_of_first-positions, After-with}

-- ---- no arguments

pub eval-value-requires-clause-bounded : goal.eval-value-requires-clause-bounded
eval-value-requires-clause-bounded t c =
    low_here c.args.known.now.lines.now c.args.term.now (first_values c.args.first) c.args.arguments.now c.args.from
    c.args.to c.in_default-split_first.ensures.cases (omega (arith, c.if-from-to.false)) c.requires.arguments

pub turned-requires : goal.turned-requires
turned-requires t c =
    let low = low_here c.args.known.now.lines.now c.args.term.now (first_values c.args.first) c.args.arguments.now
    c.args.from c.args.to c.in_default-split_first.ensures.cases (omega (arith, c.if-from-to.false))
    c.requires.arguments in
    let within = c.values_are_within_magnitudes.ensures c.args.term.now (first_values c.args.first) in
    let fits : FitsSigned w64 c.eval-value.result = search rules in
    let bound : nat_abs c.eval-value.result ≤ greatest_score = omega (arith, low, within, ap nat_abs c.eval-value.ensures) in
    simp to_z-of_z bound

pub returns-in_default-split_first : goal.returns-in_default-split_first
returns-in_default-split_first t c =
    let p = c.args.known.now.lines.now in
    let fits_value : FitsSigned w64 c.eval-value.result = search rules in
    let fits_turned : FitsSigned w64 c.turned.result = search rules in
    let told : c.turned.result ≡ turned c.goal.result c.eval-value.result = simp to_z-of_z at c.turned.ensures in
    let goal_is : c.goal.result ≡ (algebra_of p).goal = c.goal.ensures ∙ ap (λ (q : PosedProblem). (algebra_of q).goal) c.problem.ensures in
    let is : c.turned.result ≡ turned (algebra_of p).goal (term_value c.args.term.now (first_values c.args.first)) =
    told ∙ ap (λ (goal : Goal). turned goal c.eval-value.result) goal_is ∙ ap (turned (algebra_of p).goal) c.eval-value.ensures in
    simp to_z-of_z (score_here p c.args.term.now (first_values c.args.first) c.args.arguments.now c.args.from c.args.to
    c.in_default-split_first.ensures.cases c.turned.result (omega (arith, c.if-from-to.false)) is)

-- ---- the first argument

-- the arguments, from the first one on
laid : (t : ℕ) (c : After-answer_is_unique t) → AreTermLaid c.args.known.now.lines.now c.args.known.now.scores.now
    c.args.term.now (first_values c.args.first) (c.in-Some-split_first.argument.now ∷ c.in-Some-split_first.others.now)
    c.args.from c.args.to
laid t c =
    let A : List Arg → Type 0 = λ arguments. AreTermLaid c.args.known.now.lines.now c.args.known.now.scores.now
    c.args.term.now (first_values c.args.first) arguments c.args.from c.args.to in
    subst A c.in-Some-split_first.ensures.cases.0 (record { are = c.requires.arguments; span = c.requires.span; scored = c.requires.scored })

sound : (t : ℕ) (c : After-answer_is_unique t) → AreSound c.args.known.now.lines.now
sound t c =
    sound_by c.problem-2.result.now c.args.known.now.lines.now c.problem-2.ensures c.admissible.ensures
    (c.bounds_are_sound.ensures.score c.args.known.now.lines.now)
    (c.answer_is_unique.ensures c.args.known.now.lines.now)

positions : (t : ℕ) (c : After-ends_of_first-positions t)
    → ArePositions c.args.known.now.lines.now c.in-Some-split_first.argument.now c.in-Some-split_first.others.now
    c.args.from c.args.to c.ends_of_first-positions.result
positions t c = c.ends_of_first-positions.ensures c.in-Some-split_first.argument.now c.in-Some-split_first.others.now c.in-Some-split_first.ensures.cases.0

fits : (t : ℕ) (c : After-ends_of_first-positions t) (end : ℕ) → c.ends_of_first-positions.result.start ≤ end
    → end < c.ends_of_first-positions.result.end
    → FitsSpan c.args.known.now.lines.now (on_span c.in-Some-split_first.argument.now c.args.from end)
fits t c end l m = (positions t c).fit end l m

pub loop-end-init : goal.loop-end-init
loop-end-init t c =
    let at = (goal.at.loop-end-init t c).After-ends_of_first-positions in
    none_first c.args.known.now.lines.now c.args.term.now (first_values c.args.first) c.in-Some-split_first.argument.now
    c.in-Some-split_first.others.now c.args.from c.args.to c.ends_of_first-positions.result (positions t at)

pub argument_value-requires-clause-fits : goal.argument_value-requires-clause-fits
argument_value-requires-clause-fits t c =
    fits t (goal.at.argument_value-requires-clause-fits t c).After-ends_of_first-positions c.loop-end.end c.loop-end.auto.end c.loop-end-test.true

pub argument_value-requires-clause-low : goal.argument_value-requires-clause-low
argument_value-requires-clause-low t c =
    let at = (goal.at.argument_value-requires-clause-low t c).After-ends_of_first-positions in
    let begun = (goal.at.argument_value-requires-clause-low t c).After-answer_is_unique in
    first_low c.args.known.now.lines.now c.args.term.now (first_values c.args.first) c.in-Some-split_first.argument.now
    c.in-Some-split_first.others.now c.args.from c.args.to c.args.known.now.scores.now (laid t begun) c.loop-end.end
    (fits t at c.loop-end.end c.loop-end.auto.end c.loop-end-test.true)

pub loop-end-preserved-in_default-argument_value : goal.loop-end-preserved-in_default-argument_value
loop-end-preserved-in_default-argument_value t c =
    let at = (goal.at.loop-end-preserved-in_default-argument_value t c).After-ends_of_first-positions in
    let begun = (goal.at.loop-end-preserved-in_default-argument_value t c).After-answer_is_unique in
    unvalued_more c.args.known.now.lines.now c.args.term.now (first_values c.args.first)
    c.in-Some-split_first.argument.now c.in-Some-split_first.others.now c.args.from c.args.to
    c.args.known.now.scores.now (laid t begun) c.loop-end.end
    (fits t at c.loop-end.end c.loop-end.auto.end c.loop-end-test.true)
    (λ entry. c.in_default-argument_value.ensures entry) c.loop-end.greatest c.loop-end.invariant

-- the values with that of the first argument
values_are : (t : ℕ) (c : After-with t) → first_values c.with.result ≡ first_values c.args.first ++ c.in-Some-argument_value.value ∷ []
values_are t c =
    let fits_value : FitsSigned w64 c.in-Some-argument_value.value = search rules in
    simp to_z-of_z at c.with.ensures.values

pub greatest_by_term-behind-requires : goal.greatest_by_term-behind-requires
greatest_by_term-behind-requires t c =
    let at = (goal.at.greatest_by_term-behind-requires t c).After-ends_of_first-positions in
    let begun = (goal.at.greatest_by_term-behind-requires t c).After-answer_is_unique in
    let with = (goal.at.greatest_by_term-behind-requires t c).After-with in
    let end = c.loop-end.end in
    let l : end ≤ c.args.to = omega (arith, (positions t at).up_to_last, c.loop-end-test.true) in
    let rest = rest_laid c.args.known.now.lines.now c.args.term.now (first_values c.args.first)
    c.in-Some-split_first.argument.now c.in-Some-split_first.others.now c.args.from c.args.to
    c.args.known.now.scores.now (laid t begun) end
    (fits t at end c.loop-end.auto.end c.loop-end-test.true) (sound t begun) c.in-Some-argument_value.value
    (λ entry. c.in-Some-argument_value.ensures entry) l in
    let here = subst (λ before. AreTermLaid c.args.known.now.lines.now c.args.known.now.scores.now c.args.term.now
    before c.in-Some-split_first.others.now end c.args.to) (sym (values_are t with)) rest in
    let four : length c.args.first.values ≡ 4 = search rules in
    let room : c.with.result.count ≤ 4 =
    omega (
      arith,
      c.with.ensures.count,
      c.requires.room,
      length-take c.args.first.count c.args.first.values,
      four,
      c.requires.arguments.few,
      ap length c.in-Some-split_first.ensures.cases.0,
    ) in
    let fewer = c.in-Some-split_first.ensures.cases.1 in
    let L : List Arg → Type 0 = λ them. IfSome c.line_left-later.result.0 (λ it. IsLine c.args.known.now.lines.now (drop c.line_left-later.result.1 them) it) in
    let same : drop 1 c.args.arguments.now ≡ c.in-Some-split_first.others.now = ap (λ (them : List Arg). drop 1 them) c.in-Some-split_first.ensures.cases.0 in
    let line = subst L same (c.line_left-later.ensures c.args.known.now.lines.now c.args.arguments.now c.requires.line) in
    (search rules, (c.requires.same_problem, (line, (room, (here.are, (here.span, here.scored))))))

pub loop-end-preserved : goal.loop-end-preserved
loop-end-preserved t c =
    let at = (goal.at.loop-end-preserved t c).After-ends_of_first-positions in
    let begun = (goal.at.loop-end-preserved t c).After-answer_is_unique in
    let with = (goal.at.loop-end-preserved t c).After-with in
    let p = c.args.known.now.lines.now in
    let end = c.loop-end.end in
    let behind = subst (λ before. IsGreatestOf (HasTermScore p c.args.term.now before c.in-Some-split_first.others.now
    end c.args.to) c.greatest_by_term-behind.result) (values_are t with) c.greatest_by_term-behind.ensures in
    found_more p c.args.term.now (first_values c.args.first) c.in-Some-split_first.argument.now
    c.in-Some-split_first.others.now c.args.from c.args.to c.args.known.now.scores.now (laid t begun) end
    (fits t at end c.loop-end.auto.end c.loop-end-test.true) (sound t begun) c.in-Some-argument_value.value (λ entry. c.in-Some-argument_value.ensures entry)
    c.greatest_by_term-behind.result behind c.loop-end.greatest c.greater-greatest.result c.loop-end.invariant c.greater-greatest.ensures

pub returns : goal.returns
returns t c =
    let at = (goal.at.returns t c).After-ends_of_first-positions in
    let p = c.args.known.now.lines.now in
    let found = all_found p c.args.term.now (first_values c.args.first) c.in-Some-split_first.argument.now
    c.in-Some-split_first.others.now c.args.from c.args.to c.ends_of_first-positions.result (positions t at)
    c.loop-end.end c.loop-end.greatest c.loop-end-test.false c.loop-end.invariant in
    subst (λ arguments. IsGreatestOf (HasTermScore p c.args.term.now (first_values c.args.first) arguments c.args.from
    c.args.to) c.loop-end.greatest) (sym c.in-Some-split_first.ensures.cases.0) found
