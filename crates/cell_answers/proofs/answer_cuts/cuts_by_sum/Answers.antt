use Rattle.std.proofs.Common.{◌≡◌, ◌<◌, ◌≤◌, ◌+◌, ℕ, ℤ, ◌+ℤ◌, ◌-ℤ◌, Option, Some, None, List, [], ◌∷◌, length, drop}
use Rattle.std.proofs.Common.{get_or, take, FitsSigned, w64, to_z, of_z, nat_abs, sym, ap, subst, ◌∙◌, arith, rules}
use Rattle.std.proofs.Common.{length-drop}
use Rattle.std.specs.Prelude.{IfSome}
use Rattle.std.proofs.lemmas.Int.{ints, to_z-of_z}
use Rattle.adp_model.specs.declared.grammar.Arg.{Arg}
use Rattle.adp_model.specs.declared.grammar.Goal.{Goal}
use Rattle.adp_model.specs.declared.cell.Answer.TheVariants.{Best}
use Rattle.adp_model.specs.PosedProblem.{PosedProblem}
use Rattle.adp_model.specs.ProblemFields.{greatest_score, IsAdmissible}
use Rattle.adp_model.specs.Parts.{algebra_of, alternatives_of, arguments_of}
use Rattle.adp_model.specs.Bellman.{HasBestScore, Bellman}
use Rattle.score_numbers.specs.Greatest.{IsGreatestOf}
use Rattle.score_numbers.specs.Turned.{turned}
use Rattle.split_lines.specs.declared.kept.KeptAlternative.{KeptAlternative}
use Rattle.split_lines.specs.declared.kept.WeightedSum.{WeightedSum}
use Rattle.split_lines.specs.declared.lines.Line.{Line}
use Rattle.split_lines.specs.Kept.{IsAlternative}
use Rattle.split_lines.specs.Lines.{IsLine}
use Rattle.cell_answers.specs.LaidBy.{AreFirstEnds}
use Rattle.cell_answers.specs.Tails.{IsTail}
use Rattle.cell_answers.specs.Totals.{HasTotal}
use Rattle.cell_answers.proofs.Alternatives.{TokensKeepBound, alternative_laid, score_low}
use Rattle.cell_answers.proofs.BestSplits.{best_allowed, best_gives}
use Rattle.cell_answers.proofs.Bounding.{AreTermLaws}
use Rattle.cell_answers.proofs.FirstEnds.{AreLaid, AreSound, total_low}
use Rattle.cell_answers.proofs.FrontScores.{all_factors, factors_taken, line_of_all}
use Rattle.cell_answers.proofs.LaidEnds.{four_read}
use Rattle.cell_answers.proofs.LaidSplits.{total_greatest, answer_by_ends}
use Rattle.cell_answers.proofs.Scoring.{turned_low}
use Rattle.cell_answers.proofs.Soundness.{fits_below, sound_of}
use Rattle.cell_answers.proofs.TailFactors.{all_arguments_tail}
use Rattle.cell_answers.proofs.answer_cuts.cuts_by_sum.Goals as goal
use Rattle.cell_answers.proofs.answer_cuts.cuts_by_sum.Goals.{After-arguments-arguments, in-Several-Some, in-Front}

same : (c : After-arguments-arguments) → c.problem-problem.result.now ≡ c.args.lines.now
same c = c.problem-problem.ensures

admissible : (c : After-arguments-arguments) → IsAdmissible c.args.lines.now
admissible c = let A : PosedProblem → Type 0 = IsAdmissible in subst A (same c) c.admissible.ensures

bellman : (c : After-arguments-arguments) → Bellman c.args.lines.now
bellman c = c.bellman.ensures.admissible c.args.lines.now (admissible c)

sound : (c : After-arguments-arguments) → AreSound c.args.lines.now
sound c = sound_of c.args.lines.now (admissible c) (c.bounds_are_sound.ensures.score c.args.lines.now) (c.answer_is_unique.ensures c.args.lines.now)

some : (c : After-arguments-arguments) (alternative : ℕ) → alternative < length (alternatives_of c.args.lines.now.grammar c.args.cell.rule)
    → 1 ≤ length (arguments_of c.args.lines.now.grammar c.args.cell.rule alternative)
some c alternative in_range =
    c.alternatives_fit.ensures.arguments c.args.lines.now.grammar (admissible c).checked.well_formed c.args.cell.rule alternative in_range

few : (c : After-arguments-arguments) (alternative : ℕ) → length (arguments_of c.args.lines.now.grammar c.args.cell.rule alternative) ≤ 4
few c alternative = c.arguments_are_few_and_known.ensures.few c.args.lines.now.grammar (admissible c).checked.well_formed c.args.cell.rule alternative

-- the best alternative is one of the rule's
in_range : (c : After-arguments-arguments) → c.args.best.alt < length (alternatives_of c.args.lines.now.grammar c.args.cell.rule)
in_range c =
    let best = c.requires.best in
    ((bellman c).only c.args.cell (Best c.args.best.score (record { alt = c.args.best.alt; cuts = best.0 })) c.requires.in_word best.1).1.viable.in_range

-- it is kept, and scored by the sum
abbrev kept : After-arguments-arguments → KeptAlternative
kept c = c.args.alternative.now

abbrev kept_is : (c : After-arguments-arguments) → IsAlternative c.args.lines.now c.args.cell.rule c.args.best.alt (kept c)
kept_is c = c.requires.alternative

abbrev sum : After-arguments-arguments → WeightedSum
sum c = c.args.sum.now

laws : After-arguments-arguments → AreTermLaws
laws c = record { rises = c.magnitudes_rise.ensures; within = c.values_are_within_magnitudes.ensures }

-- ---- its parts

abbrev the_goal : After-arguments-arguments → Goal
the_goal c = (algebra_of c.args.lines.now).goal

abbrev the_arguments : After-arguments-arguments → List Arg
the_arguments c = arguments_of c.args.lines.now.grammar c.args.cell.rule c.args.best.alt

abbrev the_factors : After-arguments-arguments → List ℤ
the_factors c = all_factors c.args.lines.now c.args.cell c.args.best.alt (kept c) (kept_is c) (sum c) c.requires.sum

arguments_are : (c : After-arguments-arguments) → c.arguments-arguments.result.now ≡ the_arguments c
arguments_are c = c.arguments-arguments.ensures.arguments ∙ ap (λ (q : PosedProblem). arguments_of q.grammar c.args.cell.rule c.args.best.alt) (same c)

factors_are : (c : After-arguments-arguments) → take (length c.arguments-arguments.result.now) (sum c).factors ≡ the_factors c
factors_are c =
    ap (λ (arguments : List Arg). take (length arguments) (sum c).factors) (arguments_are c)
    ∙ factors_taken c.args.lines.now c.args.cell c.args.best.alt (kept c) (kept_is c) (sum c) c.requires.sum

laid : (c : After-arguments-arguments) → AreLaid c.args.lines.now c.args.scores.now (the_arguments c) (the_factors c) c.args.cell.from c.args.cell.to
laid c =
    let p = c.args.lines.now in
    let formed = (admissible c).checked.well_formed in
    let bounded : TokensKeepBound p = c.words_keep_their_score_bound.ensures.token p in
    alternative_laid (laws c) p (admissible c) c.args.cell c.args.best.alt (sum c).constant (the_factors c)
    c.requires.sum.scored c.requires.in_word c.requires.rule (in_range c)
    bounded c.args.scores.now (c.arguments_are_few_and_known.ensures.known p.grammar formed c.args.cell.rule c.args.best.alt) (few c c.args.best.alt)
    (best_allowed p (bellman c) c.args.cell c.requires.in_word (some c) (few c) c.args.best.alt (in_range c)
    c.args.best.score c.requires.best) c.requires.scored

-- what holds of the parts holds of them as they are read
here : (c : After-arguments-arguments) (P : List Arg → List ℤ → Type 0) → P (the_arguments c) (the_factors c)
    → P c.arguments-arguments.result.now (take (length c.arguments-arguments.result.now) (sum c).factors)
here c P it =
    subst (λ factors. P c.arguments-arguments.result.now factors) (sym (factors_are c))
    (subst (λ arguments. P arguments (the_factors c)) (sym (arguments_are c)) it)

here_laid : (c : After-arguments-arguments)
    → AreLaid c.args.lines.now c.args.scores.now c.arguments-arguments.result.now
    (take (length c.arguments-arguments.result.now) (sum c).factors) c.args.cell.from c.args.cell.to
here_laid c = here c (λ arguments factors. AreLaid c.args.lines.now c.args.scores.now arguments factors c.args.cell.from c.args.cell.to) (laid c)

-- ---- its line

front_few : (c : After-arguments-arguments) → length (kept c).front.now ≤ 4
front_few c = omega (arith, (kept_is c).few)

pub overflow_cast-ahead : goal.overflow_cast-ahead
overflow_cast-ahead c = omega (arith, front_few (goal.at.overflow_cast-ahead c).After-arguments-arguments)

first_low : (p : PosedProblem) (others : List Arg) (line : Line) → IsLine p (drop line.first others) line → line.first < length others
first_low p others line is = omega (arith, is.has_line.several, length-drop line.first others)

pub overflow_add-ahead : goal.overflow_add-ahead
overflow_add-ahead c =
    let at = (goal.at.overflow_add-ahead c).After-arguments-arguments in
    let L : Option Line → Type 0 = λ line. IfSome line (λ line. IsLine c.args.lines.now (drop line.first (kept at).others.now) line) in
    let line_is : L (Some c.in-Several-Some.line) = subst L c.in-Several-Some.field-0-is c.in-Several-Some.ensures in
    let low = first_low c.args.lines.now (kept at).others.now c.in-Several-Some.line line_is in
    omega (arith, low, (kept_is at).few)

pub first_ends-requires-clause-line : goal.first_ends-requires-clause-line
first_ends-requires-clause-line c =
    let at = (goal.at.first_ends-requires-clause-line c).After-arguments-arguments in
    let p = c.args.lines.now in
    let all = c.arguments-arguments.result.now in
    let L : List Arg → Option Line → ℕ → Type 0 = λ arguments line ahead. IfSome line (λ line. IsLine p (drop ahead arguments) line) in
    let O : Option Line → Type 0 = λ line. IfSome line (λ line. IsLine p (drop line.first (kept at).others.now) line) in
    let front = length (kept at).front.now in
    let to_read : (line : Option Line) (ahead : ℕ) → L (the_arguments at) line ahead → L all line ahead =
    λ line ahead it. subst (λ arguments. L arguments line ahead) (sym (arguments_are at)) it in
    let found : (pair : Option Line × ℕ) → c.match-way.ahead ≡ pair → L all pair.0 pair.1 → L all c.match-way.ahead.0 c.match-way.ahead.1 =
    λ pair is it. subst (λ (pair : Option Line × ℕ). L all pair.0 pair.1) (sym is) it in
    elim c.match-way.branch [
      | in-Several-Some w ↦
          let line_is : O (Some w.in-Several-Some.line) = subst O w.in-Several-Some.field-0-is w.in-Several-Some.ensures in
          found (Some w.in-Several-Some.line, front + w.in-Several-Some.line.first) w.ahead-is
          (to_read (Some w.in-Several-Some.line) (front + w.in-Several-Some.line.first)
          (line_of_all p c.args.cell c.args.best.alt (kept at) (kept_is at) w.in-Several-Some.line line_is))
      | in-Front w ↦ found (None, 0) w.ahead-is tt
    ]

-- ---- numbers

abbrev the_total : After-arguments-arguments → ℤ
the_total c = turned (the_goal c) c.args.best.score -ℤ (sum c).constant

told : (c : After-arguments-arguments) → turned (the_goal c) c.args.best.score ≡ ((sum c).constant +ℤ the_total c)
told c = parts (turned (the_goal c) c.args.best.score) (sum c).constant
  where
    parts : (a b : ℤ) → a ≡ (b +ℤ (a -ℤ b))
    parts a b = omega (arith, ints)

is_greatest : (c : After-arguments-arguments)
    → IsGreatestOf (HasTotal c.args.lines.now (HasBestScore c.args.lines.now) (the_arguments c) (the_factors c)
    c.args.cell.from c.args.cell.to) (Some (the_total c))
is_greatest c =
    total_greatest c.args.lines.now (bellman c) c.args.cell c.requires.in_word (some c) (few c) c.args.best.alt (in_range c) (sum c).constant (the_factors c)
    c.requires.sum.scored c.args.best.score c.requires.best (the_total c) (told c)

total_is_low : (c : After-arguments-arguments) → nat_abs (the_total c) ≤ greatest_score
total_is_low c =
    total_low c.args.lines.now (sound c) (the_arguments c) (the_factors c) c.args.cell.from c.args.cell.to (laid c).low (the_total c) (is_greatest c).0

score_is_low : (c : After-arguments-arguments) → nat_abs c.args.best.score ≤ greatest_score
score_is_low c =
    let p = c.args.lines.now in
    let gives = best_gives p (bellman c) c.args.cell c.requires.in_word (some c) (few c) c.args.best.alt (in_range c) c.args.best.score c.requires.best in
    let within : c.args.best.alt + 1 ≤ length (alternatives_of p.grammar c.args.cell.rule) = omega (arith, in_range c) in
    let low = score_low (laws c) p (admissible c) (sound c).within c.args.cell (c.args.best.alt + 1)
    (turned (the_goal c) c.args.best.score) c.requires.in_word c.requires.rule within
    (c.args.best.alt, omega arith, gives) in
    let same_size = turned_low (the_goal c) c.args.best.score in
    omega arith

pub turned-requires : goal.turned-requires
turned-requires c =
    let fits : FitsSigned w64 c.args.best.score = search rules in
    simp to_z-of_z (score_is_low (goal.at.turned-requires c).After-arguments-arguments)

-- the score, turned, as it is found
turned_is : (c : After-arguments-arguments) (goal : Goal) (found : ℤ)
    → goal ≡ (algebra_of c.problem-problem.result.now).goal → found ≡ turned goal c.args.best.score
    → found ≡ turned (the_goal c) c.args.best.score
turned_is c goal found goal_is is =
    is ∙ ap (λ goal. turned goal c.args.best.score) (goal_is ∙ ap (λ (q : PosedProblem). (algebra_of q).goal) (same c))

-- the total, as its bits are read
total_is : (c : After-arguments-arguments) (found : ℤ) → found ≡ turned (the_goal c) c.args.best.score → (found -ℤ (sum c).constant) ≡ the_total c
total_is c found is = ap (λ a. a -ℤ (sum c).constant) is

pub overflow_sub-total : goal.overflow_sub-total
overflow_sub-total c =
    let at = (goal.at.overflow_sub-total c).After-arguments-arguments in
    let fits_score : FitsSigned w64 c.args.best.score = search rules in
    let fits_turned : FitsSigned w64 c.turned.result = search rules in
    let fits_constant : FitsSigned w64 c.args.sum.now.constant = search rules in
    let found : c.turned.result ≡ turned c.goal.result c.args.best.score = simp to_z-of_z at c.turned.ensures in
    let is = total_is at c.turned.result (turned_is at c.goal.result c.turned.result c.goal.ensures found) in
    simp to_z-of_z (subst (FitsSigned w64) (sym is) (fits_below (the_total at) (total_is_low at)))

read_total : (c : After-arguments-arguments) (found : ℤ) → FitsSigned w64 found → FitsSigned w64 (sum c).constant
    → found ≡ turned (the_goal c) c.args.best.score
    → to_z w64 (of_z w64 (to_z w64 (of_z w64 found) -ℤ to_z w64 (of_z w64 (sum c).constant))) ≡ the_total c
read_total c found fits fits_constant is =
    let difference = total_is c found is in
    let fits_total : FitsSigned w64 (found -ℤ (sum c).constant) = subst (FitsSigned w64) (sym difference) (fits_below (the_total c) (total_is_low c)) in
    ap (λ x. to_z w64 (of_z w64 (x -ℤ to_z w64 (of_z w64 (sum c).constant)))) (to_z-of_z w64 found fits)
    ∙ ap (λ x. to_z w64 (of_z w64 (found -ℤ x))) (to_z-of_z w64 (sum c).constant fits_constant)
    ∙ to_z-of_z w64 (found -ℤ (sum c).constant) fits_total ∙ difference

pub first_ends-requires-clause-weighted : goal.first_ends-requires-clause-weighted
first_ends-requires-clause-weighted c = (here_laid (goal.at.first_ends-requires-clause-weighted c).After-arguments-arguments).weighted

pub first_ends-requires-clause-scored : goal.first_ends-requires-clause-scored
first_ends-requires-clause-scored c = (here_laid (goal.at.first_ends-requires-clause-scored c).After-arguments-arguments).scored

pub first_ends-requires-clause-low : goal.first_ends-requires-clause-low
first_ends-requires-clause-low c = (here_laid (goal.at.first_ends-requires-clause-low c).After-arguments-arguments).low

pub first_ends-requires-clause-greatest : goal.first_ends-requires-clause-greatest
first_ends-requires-clause-greatest c =
    let at = (goal.at.first_ends-requires-clause-greatest c).After-arguments-arguments in
    let fits_score : FitsSigned w64 c.args.best.score = search rules in
    let fits_turned : FitsSigned w64 c.turned.result = search rules in
    let fits_constant : FitsSigned w64 c.args.sum.now.constant = search rules in
    let found : c.turned.result ≡ turned c.goal.result c.args.best.score = simp to_z-of_z at c.turned.ensures in
    let read = read_total at c.turned.result fits_turned fits_constant (turned_is at c.goal.result c.turned.result c.goal.ensures found) in
    let p = c.args.lines.now in
    let G : ℤ → List Arg → List ℤ → Type 0 = λ total arguments factors.
    IsGreatestOf (HasTotal p (HasBestScore p) arguments factors c.args.cell.from c.args.cell.to) (Some total) in
    subst (λ total. G total c.arguments-arguments.result.now
    (take (length c.arguments-arguments.result.now) (sum at).factors)) (sym read)
    (here at (G (the_total at)) (is_greatest at))

pub returns-clause-answer : goal.returns-clause-answer
returns-clause-answer c =
    let at = (goal.at.returns-clause-answer c).After-arguments-arguments in
    let p = c.args.lines.now in
    let long : length c.arguments-arguments.result.now ≤ 4 = c.arguments-arguments.ensures.few in
    let four : length c.first_ends.result ≡ 4 = search rules in
    let F : List Arg → List ℤ → ℤ → List ℕ → Type 0 = λ arguments factors total ends. AreFirstEnds p arguments factors
    c.args.cell.from c.args.cell.to total ends in
    let all = c.arguments-arguments.result.now in
    let cut = take (length all) (sum at).factors in
    let ends = get_or c.first_ends.result 0 0 ∷ get_or c.first_ends.result 1 0 ∷ get_or c.first_ends.result 2 0 ∷ get_or c.first_ends.result 3 0 ∷ [] in
    let fits_score : FitsSigned w64 c.args.best.score = search rules in
    let fits_turned : FitsSigned w64 c.turned.result = search rules in
    let fits_constant : FitsSigned w64 c.args.sum.now.constant = search rules in
    let found : c.turned.result ≡ turned c.goal.result c.args.best.score = simp to_z-of_z at c.turned.ensures in
    let read = read_total at c.turned.result fits_turned fits_constant (turned_is at c.goal.result c.turned.result c.goal.ensures found) in
    let there = subst (λ total. F all cut total (take 4 c.first_ends.result)) read (c.first_ends.ensures.first 4 long (omega arith)) in
    let four_there = subst (λ them. F all cut (the_total at) them) (four_read c.first_ends.result four) there in
    let first = subst (λ arguments. F arguments (the_factors at) (the_total at) ends) (arguments_are at)
    (subst (λ factors. F all factors (the_total at) ends) (factors_are at) four_there) in
    answer_by_ends p (bellman at) c.args.cell c.requires.in_word (some at) (few at) c.args.best.alt (in_range at) (sum at).constant (the_factors at)
    c.requires.sum.scored c.args.best.score c.requires.best (the_total at) (told at)
    (get_or c.first_ends.result 0 0) (get_or c.first_ends.result 1 0) (get_or c.first_ends.result 2 0) (get_or c.first_ends.result 3 0) first

-- they are the alternative's
pub first_ends-requires-clause-owner : goal.first_ends-requires-clause-owner
first_ends-requires-clause-owner c =
    let at = (goal.at.first_ends-requires-clause-owner c).After-arguments-arguments in
    let p = c.args.lines.now in
    let T : List Arg → List ℤ → Type 0 = λ arguments factors.
    IsTail p (record { rule = c.args.cell.rule; alt = c.args.best.alt; count = length arguments })
    arguments factors in
    here at T (all_arguments_tail p c.args.cell.rule c.args.best.alt (sum at).constant (the_factors at) (laid at).weighted.factors_each c.requires.sum.scored)
