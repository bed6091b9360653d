use Rattle.std.proofs.Common.{◌≡◌, true, subst, arith}
use Rattle.adp_model.specs.declared.cell.Cell.{Cell}
use Rattle.adp_model.specs.SplitArguments.{AsksFor}
use Rattle.memo_model.specs.Visits.{argument_at, is_behind_position}
use Rattle.argument_search.proofs.WalkEnds.{positions_fall}
use Rattle.argument_search.proofs.SeekSteps.{asks_one, walk_to, none_sought, on_more, passed_more, next_sought}
use Rattle.argument_search.proofs.seeking.seek.Goals as goal

pub returns-in_default-clause-next : goal.returns-in_default-clause-next
returns-in_default-clause-next g c =
    none_sought c.args.problem.now
    (g.N.NotedCells.is_noted c.args.noted.now) c.args.visit c.loop-position.at c.in_default.ensures
    c.loop-position.invariant.passed

pub returns-then-not-has-clause-next : goal.returns-then-not-has-clause-next
returns-then-not-has-clause-next g c = (
  c.in-Some.ensures.is_argument,
  next_sought c.args.problem.now
      (g.N.NotedCells.is_noted c.args.noted.now) c.args.visit c.loop-position.at c.in-Some.position c.in-Some.ensures
      c.in-Some-asked.cell c.in-Some-asked.ensures c.loop-position.invariant.on c.loop-position.invariant.passed,
)

pub loop-position-smaller-else-not-has : goal.loop-position-smaller-else-not-has
loop-position-smaller-else-not-has g c =
    let p = c.args.problem.now in
    let v = c.args.visit in
    let next = c.in-Some.ensures in
    let formed = c.admissible.ensures.checked.well_formed in
    let few = c.arguments_are_few_and_known.ensures.few p.grammar formed v.cell.rule c.in-Some.position.alternative in
    let inside = next.is_argument.within in
    let word = c.requires.span.in_word in
    let letters = c.admissible.ensures.limits.letters in
    let alternatives = c.alternatives_fit.ensures.few p.grammar formed v.cell.rule in
    positions_fall p v c.requires.walk.three c.requires.walk.first alternatives (omega arith) c.loop-position.at
    c.in-Some.position next.is_argument.viable.three (omega arith)
    (λ at e. (
      (c.loop-position.invariant.walk.at at e).viable.three,
      subst (λ o. is_behind_position p v o (argument_at v.cell c.in-Some.position) ≡ true) e next.behind,
    ))

pub loop-position-smaller : goal.loop-position-smaller
loop-position-smaller g c =
    let p = c.args.problem.now in
    let v = c.args.visit in
    let next = c.in-Some.ensures in
    let formed = c.admissible.ensures.checked.well_formed in
    let few = c.arguments_are_few_and_known.ensures.few p.grammar formed v.cell.rule c.in-Some.position.alternative in
    let inside = next.is_argument.within in
    let word = c.requires.span.in_word in
    let letters = c.admissible.ensures.limits.letters in
    let alternatives = c.alternatives_fit.ensures.few p.grammar formed v.cell.rule in
    positions_fall p v c.requires.walk.three c.requires.walk.first alternatives (omega arith) c.loop-position.at
    c.in-Some.position next.is_argument.viable.three (omega arith)
    (λ at e. (
      (c.loop-position.invariant.walk.at at e).viable.three,
      subst (λ o. is_behind_position p v o (argument_at v.cell c.in-Some.position) ≡ true) e next.behind,
    ))

pub loop-position-preserved-else-not-has : goal.loop-position-preserved-else-not-has
loop-position-preserved-else-not-has g c =
    let p = c.args.problem.now in
    let v = c.args.visit in
    let Noted = g.N.NotedCells.is_noted c.args.noted.now in
    let next = c.in-Some.ensures in
    let position = c.in-Some.position in
    let here = argument_at v.cell position in
    let noted : (child : Cell) → AsksFor p here child → Noted child =
    λ child asks.
    subst Noted (asks_one p here c.in-Some-asked.cell child c.in-Some-asked.ensures asks)
    (c.has.ensures.0 c.if-not-has.false) in
    record {
      walk = walk_to p v c.requires.walk position next.is_argument;
      on = on_more p Noted v c.loop-position.at position next c.loop-position.invariant.on;
      passed = passed_more p Noted v c.loop-position.at position next noted c.loop-position.invariant.passed;
    }

pub loop-position-preserved : goal.loop-position-preserved
loop-position-preserved g c =
    let p = c.args.problem.now in
    let v = c.args.visit in
    let Noted = g.N.NotedCells.is_noted c.args.noted.now in
    let next = c.in-Some.ensures in
    let position = c.in-Some.position in
    let here = argument_at v.cell position in
    let noted : (child : Cell) → AsksFor p here child → Noted child =
    λ child asks. absurd (c.in_default-asked.ensures child asks) in
    record {
      walk = walk_to p v c.requires.walk position next.is_argument;
      on = on_more p Noted v c.loop-position.at position next c.loop-position.invariant.on;
      passed = passed_more p Noted v c.loop-position.at position next noted c.loop-position.invariant.passed;
    }
