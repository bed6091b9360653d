use Rattle.std.proofs.Common.{◌≡◌, ℕ, ◌+◌, ◌≤◌, Some, List, length, rules, sym, ap, subst, ◌∙◌, arith}
use Rattle.std.specs.List.{AllByRecursion}
use Rattle.adp_model.specs.declared.grammar.Arg.{Arg}
use Rattle.adp_model.specs.declared.grammar.Goal.{Goal}
use Rattle.adp_model.specs.PosedProblem.{PosedProblem}
use Rattle.adp_model.specs.Parts.{algebra_of}
use Rattle.adp_model.specs.WellFormed.{IsKnown}
use Rattle.viable_splits.specs.Placing.{ArePositions}
use Rattle.table_certificate.specs.Claims.{claimed}
use Rattle.table_certificate.specs.SplitVerdicts.{Verdict, Wrong, AreLowTokens, HasRoom, HasVerdict, IsBetterOf, IsJudged, joined, worths}
use Rattle.table_certificate.proofs.Judging.{among_more, among_none}
use Rattle.table_certificate.proofs.LaidVerdicts.{HasVerdictAt, all_ends, at_verdict, here_judged}
use Rattle.table_certificate.proofs.splits.+judge.Goals as goal
use Rattle.table_certificate.proofs.splits.+judge.Goals.{After-ends_of_first-positions, After-judge}

positions : (t : ℕ) (c : After-ends_of_first-positions t)
    → ArePositions c.args.lines.now c.in-Some.argument.now c.in-Some.others.now c.args.from c.args.to c.ends_of_first-positions.result
positions t c = c.ends_of_first-positions.ensures c.in-Some.argument.now c.in-Some.others.now c.in-Some.ensures.cases.0

pub loop-end-init : goal.loop-end-init
loop-end-init t c =
    among_none (algebra_of c.args.lines.now).goal
    (HasVerdictAt c.args.lines.now (claimed c.args.claims.now) c.args.term.now (worths c.args.front) c.in-Some.argument.now c.in-Some.others.now c.args.from c.args.to)
    c.ends_of_first-positions.result.start

pub worth-requires-clause-low : goal.worth-requires-clause-low
worth-requires-clause-low t c =
    let at = (goal.at.worth-requires-clause-low t c).After-ends_of_first-positions in
    (subst (AreLowTokens c.args.lines.now) c.in-Some.ensures.cases.0 c.requires.low).0 c.args.from c.loop-end.end
    ((positions t at).fit c.loop-end.end c.loop-end.auto.end c.loop-end-test.true)

pub judge-requires : goal.judge-requires
judge-requires t c =
    let at = (goal.at.judge-requires t c).After-ends_of_first-positions in
    let p = c.args.lines.now in
    let are = c.in-Some.ensures.cases.0 in
    let more : length c.args.arguments.now ≡ length c.in-Some.others.now + 1 = omega (arith, ap length are) in
    let end : c.loop-end.end ≤ c.args.to = omega (arith, (positions t at).up_to_last, c.loop-end-test.true) in (
      search rules,
      (
        (subst (AllByRecursion (IsKnown p.grammar)) are c.requires.known).1,
        (
          (subst (AreLowTokens p) are c.requires.low).1,
          (
            omega (arith, c.requires.few, more),
            (
              record { in_order = end; in_word = c.requires.span.in_word },
              c.with-front.ensures.room c.args.term.now (length c.in-Some.others.now) (subst (λ n. HasRoom c.args.term.now c.args.front n) more c.requires.room),
            ),
          ),
        ),
      ),
    )

-- what comes of this position
here : (t : ℕ) (c : After-judge t)
    → IsJudged (algebra_of c.args.lines.now).goal
    (HasVerdictAt c.args.lines.now (claimed c.args.claims.now) c.args.term.now (worths c.args.front) c.in-Some.argument.now c.in-Some.others.now c.args.from c.args.to c.loop-end.end)
    c.judge.result
here t c =
    let at = (goal.at.After-judge t c).After-ends_of_first-positions in
    here_judged c.args.lines.now (claimed c.args.claims.now) c.args.term.now (worths c.args.front) c.in-Some.argument.now c.in-Some.others.now c.args.from c.args.to
    (algebra_of c.args.lines.now).goal c.loop-end.end ((positions t at).fit c.loop-end.end c.loop-end.auto.end c.loop-end-test.true)
    (worths c.with-front.result) (c.with-front.ensures.worths ∙ ap (joined (worths c.args.front)) c.worth.ensures) c.judge.result c.judge.ensures

pub returns-in-None : goal.returns-in-None
returns-in-None t c =
    let after = (goal.at.returns-in-None t c).After-judge in
    let p = c.args.lines.now in
    let said = claimed c.args.claims.now in
    let wrong = subst (λ r. IsJudged (algebra_of p).goal
    (HasVerdictAt p said c.args.term.now (worths c.args.front) c.in-Some.argument.now c.in-Some.others.now c.args.from c.args.to c.loop-end.end) r) c.in-None.is (here t after) in
    subst (λ (them : List Arg). HasVerdict p said c.args.term.now (worths c.args.front) them c.args.from c.args.to Wrong) (sym c.in-Some.ensures.cases.0)
    (at_verdict p said c.args.term.now (worths c.args.front) c.in-Some.argument.now c.in-Some.others.now c.args.from c.args.to c.loop-end.end Wrong wrong)

pub loop-end-preserved : goal.loop-end-preserved
loop-end-preserved t c =
    let after = (goal.at.loop-end-preserved t c).After-judge in
    let p = c.args.lines.now in
    let said = claimed c.args.claims.now in
    let At : ℕ → Verdict → Type 0 = HasVerdictAt p said c.args.term.now (worths c.args.front) c.in-Some.argument.now c.in-Some.others.now c.args.from c.args.to in
    let judged = subst (λ r. IsJudged (algebra_of p).goal (At c.loop-end.end) r) c.in-Some-judge.is (here t after) in
    let goal_is : c.goal-goal.result ≡ (algebra_of p).goal = c.goal-goal.ensures ∙ ap (λ (q : PosedProblem). (algebra_of q).goal) c.problem.ensures in
    among_more (algebra_of p).goal At c.ends_of_first-positions.result.start c.loop-end.end c.loop-end.best c.in-Some-judge.behind c.better-best.result
    c.loop-end.auto.end c.loop-end.invariant judged
    (subst (λ (g : Goal). IsBetterOf g c.loop-end.best c.in-Some-judge.behind c.better-best.result) goal_is c.better-best.ensures)

pub returns : goal.returns
returns t c =
    let at = (goal.at.returns t c).After-ends_of_first-positions in
    let p = c.args.lines.now in
    let said = claimed c.args.claims.now in
    subst (λ (them : List Arg). IsJudged (algebra_of p).goal (HasVerdict p said c.args.term.now (worths c.args.front) them c.args.from c.args.to) (Some c.loop-end.best)) (sym c.in-Some.ensures.cases.0)
    (all_ends p said c.args.term.now (worths c.args.front) c.in-Some.argument.now c.in-Some.others.now c.args.from c.args.to (algebra_of p).goal c.ends_of_first-positions.result (positions t at)
    c.loop-end.end (omega (arith, c.loop-end-test.false)) c.loop-end.best c.loop-end.invariant)
