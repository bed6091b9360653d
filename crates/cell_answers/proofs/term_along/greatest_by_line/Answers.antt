use Rattle.std.proofs.Common.{◌≡◌, length, length-take, refl, ap, sym, subst, ◌∙◌, arith, rules}
use Rattle.adp_model.specs.WideTerms.{form_of}
use Rattle.adp_model.specs.declared.grammar.Term.{Term}
use Rattle.adp_model.specs.PosedProblem.{PosedProblem}
use Rattle.adp_model.specs.Bounds.{IsScoreBound}
use Rattle.adp_model.specs.Parts.{algebra_of}
use Rattle.score_numbers.specs.Greatest.{IsGreatestOf}
use Rattle.cell_answers.specs.declared.term_along.Found.{Found}
use Rattle.cell_answers.specs.PlainLines.{IsFoundOn, IsPlain}
use Rattle.cell_answers.specs.TermScores.{AreTermArguments, HasTermScore, first_values}
use Rattle.cell_answers.proofs.FirstEnds.{AreSound}
use Rattle.cell_answers.proofs.LineValues.{IsTermLine, found_score, none_scored, nothing_low, numbers_fit, some_mapped}
use Rattle.cell_answers.proofs.Soundness.{sound_by}
use Rattle.cell_answers.proofs.term_along.greatest_by_line.Goals as goal
use Rattle.cell_answers.proofs.term_along.greatest_by_line.Goals.{After-term_line-term}

pub open_line-requires-clause-low : goal.open_line-requires-clause-low
open_line-requires-clause-low c =
    nothing_low c.args.lines.now c.args.term.now (first_values c.args.first) c.args.arguments.now c.args.from c.args.to c.requires.arguments

pub returns-in_default-open_line : goal.returns-in_default-open_line
returns-in_default-open_line c =
    none_scored c.args.lines.now c.args.term.now (first_values c.args.first) c.args.arguments.now c.args.from c.args.to
    c.requires.arguments _ c.in_default-open_line.ensures

sound : (c : After-term_line-term) → AreSound c.args.lines.now
sound c =
    sound_by c.problem-problem.result.now c.args.lines.now c.problem-problem.ensures c.admissible.ensures
    (c.bounds_are_sound.ensures.score c.args.lines.now) (c.answer_is_unique.ensures c.args.lines.now)

-- the line with the term
term_line : (c : After-term_line-term) → IsPlain c.in-Some.line c.term_line-term.result
    → IsTermLine c.args.lines.now c.in-Wide.wide (first_values c.args.first) c.args.arguments.now c.args.from c.args.to
    c.in-Some.line c.term_line-term.result
term_line c plain =
    let p = c.args.lines.now in
    let four : length c.args.first.values ≡ 4 = search rules in
    let counted : c.args.first.count ≡ length (first_values c.args.first) =
    omega (arith, length-take c.args.first.count c.args.first.values, four, c.requires.room) in
    record {
      factors = _;
      opened = c.in-Some.ensures;
      factors_are = refl;
      plain = plain;
      form_is = ap form_of c.term_line-term.ensures.term ∙ c.root.ensures;
      goal_is = c.term_line-term.ensures.goal ∙ c.goal-goal.ensures ∙ ap (λ (q : PosedProblem). (algebra_of q).goal) c.problem-problem.ensures;
      values_are = c.term_line-term.ensures.values ∙ c.with_nothing-values.ensures.values;
      before_is = c.term_line-term.ensures.before ∙ counted;
      behind_is = omega (arith, c.term_line-term.ensures.behind, counted);
      are = subst (λ (term : Term). AreTermArguments p term (first_values c.args.first) c.args.arguments.now c.args.from
          c.args.to) c.in-Wide.is c.requires.arguments;
    }

pub greatest_of_numbers-requires-clause-fit : goal.greatest_of_numbers-requires-clause-fit
greatest_of_numbers-requires-clause-fit c =
    let at = (goal.at.greatest_of_numbers-requires-clause-fit c).After-term_line-term in
    let S : PosedProblem → Type 0 = λ q. IsScoreBound q.grammar q.algebra (length q.word) c.problem.inside.score_bound in
    let scores = subst S (c.problem.view_is ∙ c.problem-problem.ensures) c.problem.invariant.scores in
    numbers_fit c.args.lines.now c.in-Wide.wide (first_values c.args.first) c.args.arguments.now c.args.from c.args.to
    c.in-Some.line c.term_line-term.result (term_line at c.if-not-is_plain.ensures) (sound at) c.problem.inside.score_bound scores

pub returns : goal.returns
returns c =
    let at = (goal.at.returns c).After-term_line-term in
    let p = c.args.lines.now in
    let bound = c.problem.inside.score_bound in
    let S : Term → Found → Type 0 = λ term found. IsGreatestOf (HasTermScore p term (first_values c.args.first)
    c.args.arguments.now c.args.from c.args.to) found.greatest in
    some_mapped (λ (found : Found). IsFoundOn c.in-Some.line c.term_line-term.result bound found.greatest) (S c.args.term.now)
    (λ found is. subst (λ term. S term found) (sym c.in-Wide.is)
    (found_score p c.in-Wide.wide (first_values c.args.first) c.args.arguments.now c.args.from c.args.to c.in-Some.line
    c.term_line-term.result (term_line at c.if-not-is_plain.ensures) (sound at) bound found.greatest is))
    c.greatest_of_numbers.result c.greatest_of_numbers.ensures
