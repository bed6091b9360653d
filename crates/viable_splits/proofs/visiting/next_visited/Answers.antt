use Rattle.std.proofs.Common.{subst, sym}
use Rattle.viable_splits.specs.Placing.{Divide, IsNextFrom, IsLastFrom}
use Rattle.viable_splits.proofs.WholeCell.{viable_divides, next_visited, last_visited}
use Rattle.viable_splits.proofs.visiting.next_visited.Goals as goal

pub next_cuts-requires-clause-divides : goal.next_cuts-requires-clause-divides
next_cuts-requires-clause-divides g c =
    let p = g.M.Matcher.posed c.args.matcher.now in
    let cuts = c.args.cuts.now in
    subst (λ xs. Divide p xs c.args.cell.from c.args.cell.to cuts.at) (sym (rw c.problem.ensures at c.arguments-arguments.ensures.arguments)) (viable_divides p c.args.cell c.args.alt cuts.at c.requires.viable)

pub returns-in-Some-clause-next : goal.returns-in-Some-clause-next
returns-in-Some-clause-next g c =
    let p = g.M.Matcher.posed c.args.matcher.now in
    let cuts = c.args.cuts.now in
    next_visited p c.args.cell c.args.alt c.requires.viable.in_range c.requires.viable.allowed cuts c.in-Some.found
    (subst (λ xs. IsNextFrom p c.args.cell xs c.args.cell.from 0 cuts c.in-Some.found) (rw c.problem.ensures at c.arguments-arguments.ensures.arguments) c.in-Some.ensures)

pub returns-in-None-clause-last : goal.returns-in-None-clause-last
returns-in-None-clause-last g c =
    let p = g.M.Matcher.posed c.args.matcher.now in
    let cuts = c.args.cuts.now in
    last_visited p c.args.cell c.args.alt c.requires.viable.in_range c.requires.viable.allowed cuts
    (subst (λ xs. IsLastFrom p c.args.cell xs c.args.cell.from 0 cuts) (rw c.problem.ensures at c.arguments-arguments.ensures.arguments) c.in-None.ensures)
