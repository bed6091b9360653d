use Rattle.std.proofs.Common.{◌≡◌, ◌-◌, List, [], sym, ap, subst, ◌∙◌}
use Rattle.adp_model.specs.declared.grammar.Arg.{Arg}
use Rattle.adp_model.specs.declared.grammar.Term.{Term}
use Rattle.adp_model.specs.PosedProblem.{PosedProblem}
use Rattle.adp_model.specs.Lengths.{AllowsLength}
use Rattle.adp_model.specs.Parts.{algebra_of, alternative_at, arguments_of, term_of}
use Rattle.adp_model.specs.ProblemFields.{IsAdmissible}
use Rattle.table_certificate.specs.Claims.{claimed}
use Rattle.table_certificate.specs.SplitVerdicts.{Values, AreLowTokens, HasVerdict, IsJudged}
use Rattle.table_certificate.proofs.AlternativeVerdicts.{allowed_verdicts, low_tokens}
use Rattle.table_certificate.proofs.splits.judge_alternative.Goals as goal

pub judge-requires-clause-low : goal.judge-requires-clause-low
judge-requires-clause-low c =
    let p = c.args.lines.now in
    let admissible = subst IsAdmissible c.problem-problem.ensures c.admissible.ensures in
    let are : c.arguments-arguments.result.now ≡ arguments_of p.grammar c.args.cell.rule c.args.alt =
    c.arguments-arguments.ensures.arguments ∙ ap (λ (q : PosedProblem). arguments_of q.grammar c.args.cell.rule c.args.alt) c.problem-problem.ensures in
    subst (AreLowTokens p) (sym are) (low_tokens p admissible (c.words_keep_their_score_bound.ensures.token p) c.args.cell.rule c.args.alt)

pub returns-then-allows : goal.returns-then-allows
returns-then-allows c =
    let p = c.args.lines.now in
    let said = claimed c.args.claims.now in
    let rule = c.args.cell.rule in
    let are : c.arguments-arguments.result.now ≡ arguments_of p.grammar rule c.args.alt =
    c.arguments-arguments.ensures.arguments ∙ ap (λ (q : PosedProblem). arguments_of q.grammar rule c.args.alt) c.problem-problem.ensures in
    let term_is : c.term-term.result.now ≡ term_of p rule c.args.alt = c.term-term.ensures.term ∙ ap (λ (q : PosedProblem). term_of q rule c.args.alt) c.problem-problem.ensures in
    let allowed = subst (λ (q : PosedProblem). AllowsLength (alternative_at q.grammar rule c.args.alt) (c.args.cell.to - c.args.cell.from)) c.problem-problem.ensures (c.allows.ensures.0 c.if-allows.true) in
    let judged = subst (λ (them : List Arg). IsJudged (algebra_of p).goal (HasVerdict p said c.term-term.result.now (Values []) them c.args.cell.from c.args.cell.to) c.judge.result) are c.judge.ensures in
    allowed_verdicts p said c.args.cell c.args.alt (algebra_of p).goal allowed c.judge.result
    (subst (λ (t : Term). IsJudged (algebra_of p).goal (HasVerdict p said t (Values []) (arguments_of p.grammar rule c.args.alt) c.args.cell.from c.args.cell.to) c.judge.result) term_is judged)
