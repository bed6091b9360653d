use Rattle.std.proofs.Common.{◌≤◌, length, subst, arith}
use Rattle.std.specs.Prelude.{IfSome}
use Rattle.adp_model.specs.PosedProblem.{PosedProblem}
use Rattle.suffix_cells.specs.Targets.{LeadsTo}
use Rattle.suffix_cells.proofs.Leading.{nothing_left}
use Rattle.suffix_cells.proofs.marking.mark_others.Goals as goal

pub overflow_add-from : goal.overflow_add-from
overflow_add-from c =
    let L : PosedProblem → Type 0 = λ q. length q.word ≤ 4000 in
    let short = subst L c.problem.ensures c.admissible.ensures.limits.letters in
    omega (arith, short, c.requires.from)

pub returns-then-have_all-clause-marked : goal.returns-then-have_all-clause-marked
returns-then-have_all-clause-marked c =
    let leads = subst (λ targets. IfSome targets (LeadsTo c.args.lines.now c.args.visits.now.order c.args.rule)) c.in-Some.is c.requires.targets in
    nothing_left c.args.lines.now c.requires.straight c.args.visits.now c.requires.same_problem c.args.rule c.args.from c.in-Some.bits
    leads (c.have_all.ensures c.if-have_all.true)
