use Rattle.std.proofs.Common.{◌+◌, length, refl, sym, subst, ap, arith}
use Rattle.memo_model.specs.declared.visit.Position.{Position}
use Rattle.adp_model.specs.PosedProblem.{PosedProblem}
use Rattle.adp_model.specs.Splits.{IsViable}
use Rattle.adp_model.specs.Walk.{IsNextVisited}
use Rattle.argument_search.specs.Seeking.{moved_to, turned_of, AreNotedBehind, IsNextLeft}
use Rattle.argument_search.proofs.SeekSteps.{walk_to}
use Rattle.argument_search.proofs.SkipSteps.{next_on, option_on, option_first}
use Rattle.argument_search.proofs.Walks.{next_in_split, next_in_alternative, next_reached, later_from}
use Rattle.argument_search.proofs.walk.next_position.Goals as goal

pub returns-then-are_later_noted : goal.returns-then-are_later_noted
returns-then-are_later_noted g c =
    let p = c.args.problem.now in
    let v = c.args.visit in
    let Noted = g.N.NotedCells.is_noted c.args.noted.now in
    let formed = c.admissible.ensures.checked.well_formed in
    let at = c.in-Some.at in
    let e = ap length c.arguments-count.ensures.arguments in
    let later = subst (λ (q : PosedProblem). AreNotedBehind q Noted v.cell at.alternative v.turns at.cuts) c.requires.same
    (c.if-are_later_noted.ensures v.turns) in
    later_from p Noted v c.requires.walk c.requires.walk.three
    (c.ranks_tell_splits_apart.ensures p formed v.cell v.turns c.requires.span.in_order c.requires.walk.three
    c.requires.walk.turns)
    at c.in-Some.is later
    (omega (arith, e, c.if-at-count.true)) c.first_behind.result c.first_behind.ensures

pub returns-then-reached : goal.returns-then-reached
returns-then-reached g c =
    let p = c.args.problem.now in
    let v = c.args.visit in
    let formed = c.admissible.ensures.checked.well_formed in
    next_reached p (g.N.NotedCells.is_noted c.args.noted.now) v c.requires.walk c.requires.walk.three
    (c.ranks_tell_splits_apart.ensures p formed v.cell v.turns c.requires.span.in_order c.requires.walk.three
    c.requires.walk.turns)
    c.in-Some.at c.in-Some.is c.reached.new.argument c.if-reached.ensures.next

pub overflow_add-at-then-at-arguments : goal.overflow_add-at-then-at-arguments
overflow_add-at-then-at-arguments g c =
    let e = ap length c.arguments.ensures.arguments in
    let few = c.arguments.ensures.few in
    let l = c.if-at-arguments.true in
    omega arith

pub returns-then-at-arguments : goal.returns-then-at-arguments
returns-then-at-arguments g c =
    let p = c.args.problem.now in
    let v = c.args.visit in
    let Noted = g.N.NotedCells.is_noted c.args.noted.now in
    let at = c.reached.new.argument in
    let on = c.if-reached.ensures.past in
    let walk = walk_to p v c.requires.walk at on.is_argument in
    let formed = c.admissible.ensures.checked.well_formed in
    let e = ap length c.arguments.ensures.arguments in
    let l = c.if-at-arguments.true in
    subst (λ (to : Position). IsNextLeft p Noted v to) (sym c.at_number.ensures)
    (next_on p Noted v c.in-Some.at at c.in-Some.is on _
    (next_in_split p Noted (moved_to v at) walk walk.three
    (c.ranks_tell_splits_apart.ensures p formed v.cell v.turns c.requires.span.in_order c.requires.walk.three
    c.requires.walk.turns)
    at refl (omega arith)))

pub returns-then-next_viable : goal.returns-then-next_viable
returns-then-next_viable g c =
    let p = c.args.problem.now in
    let v = c.args.visit in
    let Noted = g.N.NotedCells.is_noted c.args.noted.now in
    let at = c.reached.new.argument in
    let on = c.if-reached.ensures.past in
    let walk = walk_to p v c.requires.walk at on.is_argument in
    let formed = c.admissible.ensures.checked.well_formed in
    let e = ap length c.arguments.ensures.arguments in
    let l = c.if-at-arguments.false in
    let first = subst
    (λ (q : PosedProblem). IsNextVisited q v.cell at.alternative v.turns at.cuts c.next_viable.new.cuts.at)
    c.requires.same c.if-next_viable.ensures.next in
    subst (λ (to : Position). IsNextLeft p Noted v to) (sym c.first_of.ensures)
    (next_on p Noted v c.in-Some.at at c.in-Some.is on _
    (next_in_alternative p Noted (moved_to v at) walk walk.three
    (c.ranks_tell_splits_apart.ensures p formed v.cell v.turns c.requires.span.in_order c.requires.walk.three
    c.requires.walk.turns)
    at refl c.next_viable.new.cuts.at first
    (c.alternatives_fit.ensures.arguments p.grammar formed v.cell.rule at.alternative first.viable.in_range)
    (omega arith)))

pub returns : goal.returns
returns g c =
    let p = c.args.problem.now in
    let v = c.args.visit in
    let Noted = g.N.NotedCells.is_noted c.args.noted.now in
    let at = c.reached.new.argument in
    let on = c.if-reached.ensures.past in
    let walk = walk_to p v c.requires.walk at on.is_argument in
    let formed = c.admissible.ensures.checked.well_formed in
    let e = ap length c.arguments.ensures.arguments in
    let l = c.if-at-arguments.false in
    option_on p Noted v c.in-Some.at at c.in-Some.is on _
    (later_from p Noted (moved_to v at) walk walk.three
    (c.ranks_tell_splits_apart.ensures p formed v.cell v.turns c.requires.span.in_order c.requires.walk.three
    c.requires.walk.turns)
    at refl
    (λ cuts number child behind asks. absurd
    (c.if-next_viable.ensures.last cuts
    (subst (λ (q : PosedProblem). IsViable q v.cell at.alternative cuts) (sym c.requires.same) asks.viable) behind))
    (omega arith) c.first_behind-2.result
    (option_first p Noted v c.in-Some.at at c.in-Some.is on (turned_of p v at.alternative + 1) c.first_behind-2.result
    c.first_behind-2.ensures))
