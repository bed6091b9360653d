use Rattle.std.proofs.Common.{◌≡◌, List, [], ap, drop, length, sym, subst, ◌∙◌}
use Rattle.std.specs.Prelude.{IfSome}
use Rattle.adp_model.specs.declared.grammar.Arg.{Arg}
use Rattle.adp_model.specs.declared.grammar.Term.{Term}
use Rattle.adp_model.specs.PosedProblem.{PosedProblem}
use Rattle.adp_model.specs.ProblemFields.{IsAdmissible}
use Rattle.adp_model.specs.Parts.{arguments_of, term_of}
use Rattle.split_lines.specs.Lines.{IsLine}
use Rattle.score_numbers.specs.Greatest.{IsGreatestOf}
use Rattle.cell_answers.specs.TermScores.{HasTermScore}
use Rattle.cell_answers.proofs.Bounding.{AreTermLaws}
use Rattle.cell_answers.proofs.TermAlternatives.{term_laid}
use Rattle.cell_answers.proofs.TermScores.{AreTermLaid}
use Rattle.cell_answers.proofs.by_term.score_by_term.Goals as goal
use Rattle.cell_answers.proofs.by_term.score_by_term.Goals.{After-arguments-arguments}

laws : After-arguments-arguments → AreTermLaws
laws c = record { rises = c.magnitudes_rise.ensures; within = c.values_are_within_magnitudes.ensures }

admissible : (c : After-arguments-arguments) → IsAdmissible c.args.lines.now
admissible c = let A : PosedProblem → Type 0 = IsAdmissible in subst A c.problem-problem.ensures c.admissible.ensures

arguments_are : (c : After-arguments-arguments) → c.arguments-arguments.result.now ≡ arguments_of c.args.lines.now.grammar c.args.cell.rule c.args.alt
arguments_are c =
    c.arguments-arguments.ensures.arguments ∙ ap (λ (q : PosedProblem). arguments_of q.grammar c.args.cell.rule c.args.alt) c.problem-problem.ensures

laid : (c : After-arguments-arguments) → AreTermLaid c.args.lines.now c.args.scores.now c.args.term.now []
    c.arguments-arguments.result.now c.args.cell.from c.args.cell.to
laid c =
    let p = c.args.lines.now in
    let checked = (admissible c).checked in
    let rule = c.args.cell.rule in
    let few = c.arguments_are_few_and_known.ensures in
    let there = c.terms_have_their_values.ensures (length (arguments_of p.grammar rule c.args.alt)) (term_of p rule c.args.alt)
    (c.terms_fit_their_alternatives.ensures.fit p.grammar checked.well_formed p.algebra rule c.args.alt checked.algebra_known c.requires.in_range) in
    term_laid (laws c) p (admissible c) (c.words_keep_their_score_bound.ensures.token p) c.args.cell c.args.alt
    c.requires.in_word c.requires.rule c.requires.in_range c.requires.allowed
    c.args.scores.now (few.known p.grammar checked.well_formed rule c.args.alt) (few.few p.grammar checked.well_formed rule c.args.alt) there c.requires.scored
    c.arguments-arguments.result.now (arguments_are c) c.args.term.now c.requires.term

pub greatest_by_term-requires-clause-line : goal.greatest_by_term-requires-clause-line
greatest_by_term-requires-clause-line c =
    let at = (goal.at.greatest_by_term-requires-clause-line c).After-arguments-arguments in
    subst (λ (arguments : List Arg). IfSome c.line_of-ahead.result.0
    (λ line. IsLine c.args.lines.now (drop c.line_of-ahead.result.1 arguments) line)) (sym (arguments_are at))
    c.line_of-ahead.ensures

pub greatest_by_term-requires-clause-arguments : goal.greatest_by_term-requires-clause-arguments
greatest_by_term-requires-clause-arguments c = (laid (goal.at.greatest_by_term-requires-clause-arguments c).After-arguments-arguments).are

pub greatest_by_term-requires-clause-scored : goal.greatest_by_term-requires-clause-scored
greatest_by_term-requires-clause-scored c = (laid (goal.at.greatest_by_term-requires-clause-scored c).After-arguments-arguments).scored

pub returns : goal.returns
returns c =
    let at = (goal.at.returns c).After-arguments-arguments in
    let p = c.args.lines.now in
    let G : Term → List Arg → Type 0 = λ term arguments. IsGreatestOf (HasTermScore p term [] arguments c.args.cell.from
    c.args.cell.to) c.greatest_by_term.result in
    subst (λ term. G term (arguments_of p.grammar c.args.cell.rule c.args.alt)) c.requires.term
    (subst (G c.args.term.now) (arguments_are at) c.greatest_by_term.ensures)
