use Rattle.std.proofs.Common.{◌≡◌, ℕ, ◌+◌, ◌-◌, ◌≤◌, Some, List, ◌∷◌, length, drop, sym, ap, subst, ◌∙◌, arith, rules}
use Rattle.std.specs.Option.{option_copied}
use Rattle.std.specs.Prelude.{IfSome}
use Rattle.std.specs.List.{AllByRecursion}
use Rattle.std.proofs.lemmas.Bool.{OnTrue_at, OnTrue_from}
use Rattle.adp_model.specs.declared.grammar.Arg.{Arg}
use Rattle.adp_model.specs.PosedProblem.{IsSpan}
use Rattle.adp_model.specs.WellFormed.{IsKnown}
use Rattle.split_lines.specs.Ends.{IsEndTold}
use Rattle.split_lines.specs.Lines.{IsLine}
use Rattle.argument_search.specs.Skipping.{AreNotedIfLaid}
use Rattle.argument_search.proofs.NotedArguments.{laid_behind, laid_nowhere, laid_from}
use Rattle.argument_search.proofs.passing.+are_arguments_noted.Given.{Over}
use Rattle.argument_search.proofs.passing.+are_arguments_noted.Goals as goal
use Rattle.argument_search.proofs.passing.+are_arguments_noted.Goals.{After-is_fixed, In-Some-token_end}

-- what is required of the line and of the other arguments
others_are : (g : Over) (t : ℕ) (c : After-is_fixed g t)
    → IfSome (option_copied c.args.line)
    (λ line. IsLine c.args.lines.now (drop c.saturating_sub-ahead.result c.in-Some.others.now) line)
    × AllByRecursion (IsKnown c.args.lines.now.grammar) c.in-Some.others.now × (length c.in-Some.others.now ≤ 4)
others_are g t c =
    let p = c.args.lines.now in
    let line = option_copied c.args.line in
    let others = c.in-Some.others.now in
    let split = c.in-Some.ensures.cases.0 in
    let fewer : length c.args.arguments.now ≡ length others + 1 = ap length split ∙ omega arith in
    let Begins : List Arg → Type 0 = λ xs. IfSome line (λ line. IsLine p (drop c.args.ahead xs) line) in
    let Later : ℕ → Type 0 = λ n. IfSome line (λ line. IsLine p (drop n others) line) in
    let less : c.args.ahead - 1 ≡ c.saturating_sub-ahead.result = sym c.saturating_sub-ahead.ensures in (
      subst Later less
          (c.line_begins_later.ensures p c.in-Some.argument.now others line (option_copied c.line_here.result) c.args.ahead
          c.line_here.ensures (ap option_copied c.in_default-line_here.is) (subst Begins split c.requires.line)),
      (subst (AllByRecursion (IsKnown p.grammar)) split c.requires.known).1,
      omega (arith, fewer, c.requires.few),
    )

-- what holds of the first argument and the others holds of the arguments
of_all : (g : Over) (t : ℕ) (c : After-is_fixed g t)
    → AreNotedIfLaid c.args.lines.now (g.N.NotedCells.is_noted c.args.noted.now)
    (c.in-Some.argument.now ∷ c.in-Some.others.now) c.args.so_far c.args.from c.args.to
    → AreNotedIfLaid c.args.lines.now (g.N.NotedCells.is_noted c.args.noted.now) c.args.arguments.now c.args.so_far
    c.args.from c.args.to
of_all g t c =
    subst
    (λ (xs : List Arg). AreNotedIfLaid c.args.lines.now (g.N.NotedCells.is_noted c.args.noted.now) xs
    c.args.so_far c.args.from c.args.to)
    (sym c.in-Some.ensures.cases.0)

-- ---- a token in front

told_end : (g : Over) (t : ℕ) (c : In-Some-token_end g t)
    → IsEndTold c.args.lines.now c.in-Some.argument.now c.args.from c.args.to (Some c.in-Some-token_end.end)
told_end g t c =
    subst (IsEndTold c.args.lines.now c.in-Some.argument.now c.args.from c.args.to) c.in-Some-token_end.is
    c.token_end.ensures

pub are_arguments_noted-requires : goal.are_arguments_noted-requires
are_arguments_noted-requires g t c κs within =
    let it = others_are g t (goal.at.are_arguments_noted-requires g t c).After-is_fixed in
    let told = told_end g t (goal.at.are_arguments_noted-requires g t c).In-Some-token_end in
    let there = (told c.in-Some-token_end.end).0 (λ i. Some c.in-Some-token_end.end) in
    let span : IsSpan c.args.lines.now.word c.in-Some-token_end.end c.args.to =
    record { in_order = there.0; in_word = c.requires.span.in_word } in
    (search rules, (within, (it.0, (it.1, (it.2, (span, λ end l m. absurd (omega (arith, m))))))))

pub returns-then-is_fixed : goal.returns-then-is_fixed
returns-then-is_fixed g t c =
    OnTrue_from _ _
    (λ e.
    of_all g t (goal.at.returns-then-is_fixed g t c).After-is_fixed
    (laid_behind c.args.lines.now (g.N.NotedCells.is_noted c.args.noted.now) c.in-Some.argument.now
    c.in-Some.others.now c.args.so_far c.args.from c.args.to (c.is_fixed.ensures.0 c.if-is_fixed.true)
    c.in-Some-token_end.end (told_end g t (goal.at.returns-then-is_fixed g t c).In-Some-token_end)
    (OnTrue_at e c.are_arguments_noted.ensures)))

pub returns-in_default-token_end : goal.returns-in_default-token_end
returns-in_default-token_end g t c =
    of_all g t (goal.at.returns-in_default-token_end g t c).After-is_fixed
    (laid_nowhere c.args.lines.now (g.N.NotedCells.is_noted c.args.noted.now) c.in-Some.argument.now
    c.in-Some.others.now c.args.so_far c.args.from c.args.to (c.is_fixed.ensures.0 c.if-is_fixed.true)
    (subst (IsEndTold c.args.lines.now c.in-Some.argument.now c.args.from c.args.to) c.in_default-token_end.is c.token_end.ensures))

-- ---- one of open length in front

pub are_arguments_noted-requires-in-loop-end : goal.are_arguments_noted-requires-in-loop-end
are_arguments_noted-requires-in-loop-end g t c κs within =
    let it = others_are g t (goal.at.are_arguments_noted-requires-in-loop-end g t c).After-is_fixed in
    let positions = c.ends_of_first-ends.ensures c.in-Some.argument.now c.in-Some.others.now c.in-Some.ensures.cases.0 in
    let span : IsSpan c.args.lines.now.word c.loop-end.end c.args.to =
    record { in_order = omega (arith, positions.up_to_last, c.loop-end-test.true); in_word = c.requires.span.in_word } in
    (search rules, (within, (it.0, (it.1, (it.2, (span, c.loop-end.invariant.told))))))

pub returns : goal.returns
returns g t c =
    let argument = c.in-Some.argument.now in
    let others = c.in-Some.others.now in
    of_all g t (goal.at.returns g t c).After-is_fixed
    (laid_from c.args.lines.now (g.N.NotedCells.is_noted c.args.noted.now) argument others c.args.so_far c.args.from
    c.args.to c.ends_of_first-ends.result
    (c.ends_of_first-ends.ensures argument others c.in-Some.ensures.cases.0)
    (λ end l m. c.loop-end.invariant.noted end l (omega arith)))
