use Rattle.std.proofs.Common.{◌++◌, length, ap, subst, arith}
use Rattle.adp_model.specs.PosedProblem.{PosedProblem}
use Rattle.adp_model.specs.ProblemFields.{IsAdmissible}
use Rattle.argument_search.proofs.Demanded.{all_noted, noted_behind}
use Rattle.argument_search.proofs.passing.end_in_front.Goals as goal

pub returns-in_default : goal.returns-in_default
returns-in_default g c = λ cuts number child asks.
    absurd (c.in_default.ensures c.args.alt cuts c.requires.alternative asks.viable)

-- what its arguments may demand is all that its splits ask for
pub returns-then-are_others_noted : goal.returns-then-are_others_noted
returns-then-are_others_noted g c =
    let p = c.args.lines.now in
    let Noted = g.N.NotedCells.is_noted c.args.noted.now in
    let cell = c.args.cell in
    let kept = c.args.alternative.now in
    let is = c.requires.alternative in
    let admissible : IsAdmissible p = subst (λ (q : PosedProblem). IsAdmissible q) c.problem.ensures
    c.admissible.ensures in
    let formed = admissible.checked.well_formed in
    let count = ap length is.arguments in
    let some = c.alternatives_fit.ensures.arguments p.grammar formed cell.rule c.args.alt c.requires.in_range in
    let few = c.arguments_are_few_and_known.ensures.few p.grammar formed cell.rule c.args.alt in
    all_noted p Noted cell c.args.alt (kept.front.now ++ kept.others.now) is.arguments
    (omega (arith, count, some)) (omega (arith, count, few))
    (noted_behind p Noted kept.front.now kept.others.now cell.from cell.to is.in_front.fixed c.in-Some.end
    c.in-Some.ensures.only c.if-are_others_noted.ensures)
