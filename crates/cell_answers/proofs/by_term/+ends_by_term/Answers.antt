use Rattle.std.proofs.Common.{drop, Option, ◌≡◌, ◌+◌, ◌-◌, ◌<◌, ◌≤◌, ℕ, suc, ℤ, Some, None, List, [], ◌∷◌, ◌++◌, length}
use Rattle.std.proofs.Common.{length-take, get_or, take, ap, FitsSigned, w64, to_z, of_z, sym, subst, arith, rules}
use Rattle.std.specs.Prelude.{IfSome}
use Rattle.std.proofs.lemmas.Int.{to_z-of_z}
use Rattle.adp_model.specs.declared.grammar.Arg.{Arg}
use Rattle.adp_model.specs.Splits.{FitsSpan}
use Rattle.viable_splits.specs.Placing.{on_span, ArePositions}
use Rattle.split_lines.specs.declared.lines.Line.{Line}
use Rattle.split_lines.specs.Lines.{IsLine}
use Rattle.score_numbers.specs.Greatest.{IsGreatestOf}
use Rattle.cell_answers.specs.TermScores.{AreFirstTermEnds, HasTermScore, first_values}
use Rattle.cell_answers.proofs.FirstEnds.{AreSound}
use Rattle.cell_answers.proofs.LaidEnds.{front_same}
use Rattle.cell_answers.proofs.Soundness.{same_bits, sound_by}
use Rattle.cell_answers.proofs.TermScores.{AreTermLaid, first_low, rest_laid}
use Rattle.cell_answers.proofs.TermEnds.{HasScoreNowhere, found_here, no_ends, none_at_first, none_scored, none_so_great, none_valued, not_all_tried}
use Rattle.cell_answers.proofs.by_term.+ends_by_term.Goals as goal
use Rattle.cell_answers.proofs.by_term.+ends_by_term.Goals.{After-answer_is_unique, After-ends_of_first-positions, After-with-first}

pub returns-in_default : goal.returns-in_default
returns-in_default t c room l m =
    no_ends c.args.known.now.lines.now c.args.term.now (first_values c.args.first) c.args.arguments.now c.args.from
    c.args.to c.args.score room c.in_default.ensures.cases c.requires.greatest.0

-- the arguments, from the first one on
laid : (t : ℕ) (c : After-answer_is_unique t) → AreTermLaid c.args.known.now.lines.now c.args.known.now.scores.now
    c.args.term.now (first_values c.args.first) (c.in-Some.argument.now ∷ c.in-Some.others.now) c.args.from c.args.to
laid t c =
    let A : List Arg → Type 0 = λ arguments. AreTermLaid c.args.known.now.lines.now c.args.known.now.scores.now
    c.args.term.now (first_values c.args.first) arguments c.args.from c.args.to in
    subst A c.in-Some.ensures.cases.0 (record { are = c.requires.arguments; span = c.requires.span; scored = c.requires.scored })

greatest : (t : ℕ) (c : After-answer_is_unique t)
    → IsGreatestOf (HasTermScore c.args.known.now.lines.now c.args.term.now (first_values c.args.first)
    (c.in-Some.argument.now ∷ c.in-Some.others.now) c.args.from c.args.to) (Some c.args.score)
greatest t c =
    let A : List Arg → Type 0 = λ arguments. IsGreatestOf (HasTermScore c.args.known.now.lines.now c.args.term.now
    (first_values c.args.first) arguments c.args.from c.args.to) (Some c.args.score) in
    subst A c.in-Some.ensures.cases.0 c.requires.greatest

sound : (t : ℕ) (c : After-answer_is_unique t) → AreSound c.args.known.now.lines.now
sound t c =
    sound_by c.problem.result.now c.args.known.now.lines.now c.problem.ensures c.admissible.ensures
    (c.bounds_are_sound.ensures.score c.args.known.now.lines.now)
    (c.answer_is_unique.ensures c.args.known.now.lines.now)

positions : (t : ℕ) (c : After-ends_of_first-positions t)
    → ArePositions c.args.known.now.lines.now c.in-Some.argument.now c.in-Some.others.now c.args.from c.args.to
    c.ends_of_first-positions.result
positions t c = c.ends_of_first-positions.ensures c.in-Some.argument.now c.in-Some.others.now c.in-Some.ensures.cases.0

fits : (t : ℕ) (c : After-ends_of_first-positions t) (end : ℕ) → c.ends_of_first-positions.result.start ≤ end
    → end < c.ends_of_first-positions.result.end
    → FitsSpan c.args.known.now.lines.now (on_span c.in-Some.argument.now c.args.from end)
fits t c end l m = (positions t c).fit end l m

-- what a goal has of the score: its bits, read back
score_is : (t : ℕ) (c : After-answer_is_unique t) → to_z w64 (of_z w64 c.args.score) ≡ c.args.score
score_is t c = let fits : FitsSigned w64 c.args.score = search rules in to_z-of_z w64 c.args.score fits

abbrev Nowhere : (t : ℕ) (c : After-answer_is_unique t) → ℕ → ℤ → Type 0
Nowhere t c bound score =
    HasScoreNowhere c.args.known.now.lines.now c.args.term.now (first_values c.args.first) c.in-Some.argument.now
    c.in-Some.others.now c.args.from c.args.to score bound

-- the invariant, with the score itself
before : (t : ℕ) (c : After-answer_is_unique t) (bound : ℕ) → Nowhere t c bound (to_z w64 (of_z w64 c.args.score)) → Nowhere t c bound c.args.score
before t c bound it = subst (Nowhere t c bound) (score_is t c) it

after : (t : ℕ) (c : After-answer_is_unique t) (bound : ℕ) → Nowhere t c bound c.args.score → Nowhere t c bound (to_z w64 (of_z w64 c.args.score))
after t c bound it = subst (Nowhere t c bound) (sym (score_is t c)) it

pub loop-end-init : goal.loop-end-init
loop-end-init t c =
    let at = (goal.at.loop-end-init t c).After-ends_of_first-positions in
    let begun = (goal.at.loop-end-init t c).After-answer_is_unique in
    after t begun c.ends_of_first-positions.result.start
    (none_at_first c.args.known.now.lines.now c.args.term.now (first_values c.args.first) c.in-Some.argument.now
    c.in-Some.others.now c.args.from c.args.to c.args.score c.ends_of_first-positions.result (positions t at))

pub argument_value-requires-clause-fits : goal.argument_value-requires-clause-fits
argument_value-requires-clause-fits t c =
    fits t (goal.at.argument_value-requires-clause-fits t c).After-ends_of_first-positions c.loop-end.end c.loop-end.auto.end c.loop-end-test.true

pub argument_value-requires-clause-low : goal.argument_value-requires-clause-low
argument_value-requires-clause-low t c =
    let at = (goal.at.argument_value-requires-clause-low t c).After-ends_of_first-positions in
    let begun = (goal.at.argument_value-requires-clause-low t c).After-answer_is_unique in
    first_low c.args.known.now.lines.now c.args.term.now (first_values c.args.first) c.in-Some.argument.now
    c.in-Some.others.now c.args.from c.args.to c.args.known.now.scores.now (laid t begun) c.loop-end.end
    (fits t at c.loop-end.end c.loop-end.auto.end c.loop-end-test.true)

pub loop-end-preserved-in_default-argument_value : goal.loop-end-preserved-in_default-argument_value
loop-end-preserved-in_default-argument_value t c =
    let at = (goal.at.loop-end-preserved-in_default-argument_value t c).After-ends_of_first-positions in
    let begun = (goal.at.loop-end-preserved-in_default-argument_value t c).After-answer_is_unique in
    let end = c.loop-end.end in
    after t begun (end + 1)
    (none_valued c.args.known.now.lines.now c.args.term.now (first_values c.args.first) c.in-Some.argument.now
    c.in-Some.others.now c.args.from c.args.to c.args.score c.args.known.now.scores.now (laid t begun) end
    (before t begun end c.loop-end.invariant) (fits t at end c.loop-end.auto.end c.loop-end-test.true) (λ entry. c.in_default-argument_value.ensures entry))

-- ---- behind the value of the first argument

values_are : (t : ℕ) (c : After-with-first t) → first_values c.with-first.result ≡ first_values c.args.first ++ c.in-Some-argument_value.value ∷ []
values_are t c =
    let fits_value : FitsSigned w64 c.in-Some-argument_value.value = search rules in
    simp to_z-of_z at c.with-first.ensures.values

abbrev Behind : (t : ℕ) (c : After-with-first t) → List ℤ → Type 0
Behind t c values = AreTermLaid c.args.known.now.lines.now c.args.known.now.scores.now c.args.term.now values c.in-Some.others.now c.loop-end.end c.args.to

behind_laid : (t : ℕ) (begun : After-answer_is_unique t) (at : After-ends_of_first-positions t) (c : After-with-first t)
    → AreTermLaid c.args.known.now.lines.now c.args.known.now.scores.now c.args.term.now
    (first_values c.args.first ++ c.in-Some-argument_value.value ∷ []) c.in-Some.others.now c.loop-end.end c.args.to
    → Behind t c (first_values c.with-first.result)
behind_laid t begun at c rest = subst (Behind t c) (sym (values_are t c)) rest

pub greatest_by_term-requires-clause-line : goal.greatest_by_term-requires-clause-line
greatest_by_term-requires-clause-line t c =
    subst (λ (given : Option Line). IfSome given (λ line. IsLine c.args.known.now.lines.now (drop 0 c.in-Some.others.now) line)) (sym c.requires.no_line) tt

pub greatest_by_term-requires-clause-room : goal.greatest_by_term-requires-clause-room
greatest_by_term-requires-clause-room t c =
    let four : length c.args.first.values ≡ 4 = search rules in
    omega (
      arith,
      c.with-first.ensures.count,
      c.requires.room,
      length-take c.args.first.count c.args.first.values,
      four,
      c.requires.arguments.few,
      ap length c.in-Some.ensures.cases.0,
    )

pub greatest_by_term-requires-clause-arguments : goal.greatest_by_term-requires-clause-arguments
greatest_by_term-requires-clause-arguments t c =
    let at = (goal.at.greatest_by_term-requires-clause-arguments t c).After-ends_of_first-positions in
    let begun = (goal.at.greatest_by_term-requires-clause-arguments t c).After-answer_is_unique in
    let with = (goal.at.greatest_by_term-requires-clause-arguments t c).After-with-first in
    let end = c.loop-end.end in
    let l : end ≤ c.args.to = omega (arith, (positions t at).up_to_last, c.loop-end-test.true) in
    (behind_laid t begun at with (rest_laid c.args.known.now.lines.now c.args.term.now (first_values c.args.first)
    c.in-Some.argument.now c.in-Some.others.now c.args.from c.args.to c.args.known.now.scores.now (laid t begun) end
    (fits t at end c.loop-end.auto.end c.loop-end-test.true) (sound t begun) c.in-Some-argument_value.value
    (λ entry. c.in-Some-argument_value.ensures entry) l)).are

pub greatest_by_term-requires-clause-span : goal.greatest_by_term-requires-clause-span
greatest_by_term-requires-clause-span t c =
    let at = (goal.at.greatest_by_term-requires-clause-span t c).After-ends_of_first-positions in
    record { in_order = omega (arith, (positions t at).up_to_last, c.loop-end-test.true); in_word = c.requires.span.in_word }

pub greatest_by_term-requires-clause-scored : goal.greatest_by_term-requires-clause-scored
greatest_by_term-requires-clause-scored t c =
    let at = (goal.at.greatest_by_term-requires-clause-scored t c).After-ends_of_first-positions in
    let begun = (goal.at.greatest_by_term-requires-clause-scored t c).After-answer_is_unique in
    let end = c.loop-end.end in
    let l : end ≤ c.args.to = omega (arith, (positions t at).up_to_last, c.loop-end-test.true) in
    (rest_laid c.args.known.now.lines.now c.args.term.now (first_values c.args.first) c.in-Some.argument.now
    c.in-Some.others.now c.args.from c.args.to c.args.known.now.scores.now (laid t begun) end
    (fits t at end c.loop-end.auto.end c.loop-end-test.true) (sound t begun) c.in-Some-argument_value.value
    (λ entry. c.in-Some-argument_value.ensures entry) l).scored

pub loop-end-preserved-in_default-greatest_by_term : goal.loop-end-preserved-in_default-greatest_by_term
loop-end-preserved-in_default-greatest_by_term t c =
    let at = (goal.at.loop-end-preserved-in_default-greatest_by_term t c).After-ends_of_first-positions in
    let begun = (goal.at.loop-end-preserved-in_default-greatest_by_term t c).After-answer_is_unique in
    let with = (goal.at.loop-end-preserved-in_default-greatest_by_term t c).After-with-first in
    let p = c.args.known.now.lines.now in
    let end = c.loop-end.end in
    let none = subst (λ values. IsGreatestOf (HasTermScore p c.args.term.now values c.in-Some.others.now end c.args.to)
    None) (values_are t with) c.in_default-greatest_by_term.ensures in
    after t begun (end + 1)
    (none_scored p c.args.term.now (first_values c.args.first) c.in-Some.argument.now c.in-Some.others.now c.args.from
    c.args.to c.args.score c.args.known.now.scores.now (laid t begun) end
    (before t begun end c.loop-end.invariant) (fits t at end c.loop-end.auto.end c.loop-end-test.true) (sound t begun)
    c.in-Some-argument_value.value (λ entry. c.in-Some-argument_value.ensures entry) none)

pub loop-end-preserved : goal.loop-end-preserved
loop-end-preserved t c =
    let at = (goal.at.loop-end-preserved t c).After-ends_of_first-positions in
    let begun = (goal.at.loop-end-preserved t c).After-answer_is_unique in
    let with = (goal.at.loop-end-preserved t c).After-with-first in
    let p = c.args.known.now.lines.now in
    let end = c.loop-end.end in
    let best = c.in-Some-greatest_by_term.behind in
    let behind = subst (λ values. IsGreatestOf (HasTermScore p c.args.term.now values c.in-Some.others.now end
    c.args.to) (Some best)) (values_are t with) c.in-Some-greatest_by_term.ensures in
    let differs : best ≡ c.args.score → ⊥ = λ e. c.if-behind-score.false (ap (of_z w64) e) in
    after t begun (end + 1)
    (none_so_great p c.args.term.now (first_values c.args.first) c.in-Some.argument.now c.in-Some.others.now c.args.from
    c.args.to c.args.score c.args.known.now.scores.now (laid t begun) end
    (before t begun end c.loop-end.invariant) (fits t at end c.loop-end.auto.end c.loop-end-test.true) (sound t begun)
    c.in-Some-argument_value.value (λ entry. c.in-Some-argument_value.ensures entry)
    (greatest t begun) best behind differs)

pub ends_by_term-requires : goal.ends_by_term-requires
ends_by_term-requires t c =
    let at = (goal.at.ends_by_term-requires t c).After-ends_of_first-positions in
    let begun = (goal.at.ends_by_term-requires t c).After-answer_is_unique in
    let with = (goal.at.ends_by_term-requires t c).After-with-first in
    let p = c.args.known.now.lines.now in
    let end = c.loop-end.end in
    let best = c.in-Some-greatest_by_term.behind in
    let l : end ≤ c.args.to = omega (arith, (positions t at).up_to_last, c.loop-end-test.true) in
    let here = behind_laid t begun at with (rest_laid p c.args.term.now (first_values c.args.first)
    c.in-Some.argument.now c.in-Some.others.now c.args.from c.args.to c.args.known.now.scores.now (laid t begun) end
    (fits t at end c.loop-end.auto.end c.loop-end-test.true) (sound t begun) c.in-Some-argument_value.value
    (λ entry. c.in-Some-argument_value.ensures entry) l) in
    let four : length c.args.first.values ≡ 4 = search rules in
    let room : c.with-first.result.count ≤ 4 =
    omega (
      arith,
      c.with-first.ensures.count,
      c.requires.room,
      length-take c.args.first.count c.args.first.values,
      four,
      c.requires.arguments.few,
      ap length c.in-Some.ensures.cases.0,
    ) in
    let fits_best : FitsSigned w64 best = search rules in
    let fits_score : FitsSigned w64 c.args.score = search rules in
    let same = same_bits best c.args.score fits_best fits_score c.if-behind-score.true in
    let G : ℤ → Type 0 = λ score. IsGreatestOf (HasTermScore p c.args.term.now (first_values c.with-first.result)
    c.in-Some.others.now end c.args.to) (Some score) in
    let is_greatest = subst G (sym (score_is t begun)) (subst G same c.in-Some-greatest_by_term.ensures) in
    let fewer = c.in-Some.ensures.cases.1 in
    (search rules, (c.requires.same_problem, (c.requires.no_line, (room, (here.are, (here.span, (here.scored, is_greatest)))))))

pub returns-then-behind-score : goal.returns-then-behind-score
returns-then-behind-score t c room l m =
    let at = (goal.at.returns-then-behind-score t c).After-ends_of_first-positions in
    let begun = (goal.at.returns-then-behind-score t c).After-answer_is_unique in
    let with = (goal.at.returns-then-behind-score t c).After-with-first in
    let p = c.args.known.now.lines.now in
    let term = c.args.term.now in
    let end = c.loop-end.end in
    let value = c.in-Some-argument_value.value in
    let best = c.in-Some-greatest_by_term.behind in
    let values = first_values c.args.first ++ value ∷ [] in
    let fits_best : FitsSigned w64 best = search rules in
    let fits_score : FitsSigned w64 c.args.score = search rules in
    let same = same_bits best c.args.score fits_best fits_score c.if-behind-score.true in
    let behind = subst (λ values. IsGreatestOf (HasTermScore p term values c.in-Some.others.now end c.args.to)
    (Some best)) (values_are t with) c.in-Some-greatest_by_term.ensures in
    let fewer : room - 1 ≤ 3 = omega arith in
    let long : length c.in-Some.others.now ≤ room - 1 = omega (arith, ap length c.in-Some.ensures.cases.0) in
    let next : room ≡ suc (room - 1) = omega (arith, ap length c.in-Some.ensures.cases.0) in
    let F : List ℤ → ℤ → List ℕ → Type 0 = λ values score ends. AreFirstTermEnds p term values c.in-Some.others.now end c.args.to score ends in
    let four : length c.ends_by_term.result ≡ 4 = search rules in
    let told = subst (λ score. F (first_values c.with-first.result) score (take (room - 1) c.ends_by_term.result))
    (score_is t begun) (c.ends_by_term.ensures (room - 1) long (omega arith)) in
    let later = subst (λ values. F values c.args.score (take (room - 1) c.ends_by_term.result)) (values_are t with) told in
    let read = subst (F values c.args.score) (sym (front_same c.ends_by_term.result (room - 1) four fewer)) later in
    let others = get_or c.ends_by_term.result 0 0 ∷ get_or c.ends_by_term.result 1 0 ∷ get_or c.ends_by_term.result 2 0 ∷ [] in
    let found = found_here p term (first_values c.args.first) c.in-Some.argument.now c.in-Some.others.now c.args.from
    c.args.to c.args.score c.args.known.now.scores.now (laid t begun) end
    (before t begun end c.loop-end.invariant) (fits t at end c.loop-end.auto.end c.loop-end-test.true) (sound t begun)
    value (λ entry. c.in-Some-argument_value.ensures entry)
    (greatest t begun) best behind same (take (room - 1) others) read in
    let A : List Arg → List ℕ → Type 0 = λ arguments ends. AreFirstTermEnds p term (first_values c.args.first) arguments
    c.args.from c.args.to c.args.score ends in
    subst (λ arguments. A arguments (take room (end ∷ others))) (sym c.in-Some.ensures.cases.0)
    (subst (λ n. A (c.in-Some.argument.now ∷ c.in-Some.others.now) (take n (end ∷ others))) (sym next) found)

pub unreachable-requires : goal.unreachable-requires
unreachable-requires t c =
    let at = (goal.at.unreachable-requires t c).After-ends_of_first-positions in
    let begun = (goal.at.unreachable-requires t c).After-answer_is_unique in
    not_all_tried c.args.known.now.lines.now c.args.term.now (first_values c.args.first) c.in-Some.argument.now
    c.in-Some.others.now c.args.from c.args.to c.args.score c.ends_of_first-positions.result (positions t at)
    (greatest t begun).0 c.loop-end.end c.loop-end-test.false (before t begun c.loop-end.end c.loop-end.invariant)
