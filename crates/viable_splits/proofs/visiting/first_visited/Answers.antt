use Rattle.std.proofs.Common.{◌≡◌, ℕ, ◌-◌, refl, sym, subst}
use Rattle.std.proofs.lemmas.Bool.{false≢true}
use Rattle.adp_model.specs.PosedProblem.{PosedProblem}
use Rattle.adp_model.specs.Lengths.{AllowsLength}
use Rattle.adp_model.specs.Parts.{alternative_at}
use Rattle.viable_splits.specs.declared.cuts.Cuts.{Cuts}
use Rattle.viable_splits.specs.Placing.{HasNoneBehind, IsFirstBehind}
use Rattle.viable_splits.proofs.WholeCell.{first_visited, none_visited}
use Rattle.viable_splits.proofs.visiting.first_visited.Goals as goal

pub returns-then-not-allows-clause-none : goal.returns-then-not-allows-clause-none
returns-then-not-allows-clause-none g c = λ others viable.
    let P : PosedProblem → Type 0 = λ q. AllowsLength (alternative_at q.grammar c.args.cell.rule c.args.alt) (c.args.cell.to - c.args.cell.from) in
    false≢true (c.if-not-allows.ensures.1 (subst P (sym c.problem-problem.ensures) viable.allowed))

pub returns-in-Some-clause-first : goal.returns-in-Some-clause-first
returns-in-Some-clause-first g c =
    let p = g.M.Matcher.posed c.args.matcher.now in
    let cuts : Cuts = record { at = c.args.cuts.now.at; turns = c.args.turns } in
    let P : PosedProblem → Type 0 = λ q. AllowsLength (alternative_at q.grammar c.args.cell.rule c.args.alt) (c.args.cell.to - c.args.cell.from) in
    first_visited p c.args.cell c.args.alt c.requires.alternative (subst P c.problem-problem.ensures (c.if-not-allows.ensures.0 refl)) cuts c.in-Some.found
    (subst (λ xs. IsFirstBehind p c.args.cell xs c.args.cell.from 0 0 cuts c.in-Some.found) (rw c.problem-problem.ensures at c.arguments-arguments.ensures.arguments) c.in-Some.ensures)

pub returns-in-None-clause-none : goal.returns-in-None-clause-none
returns-in-None-clause-none g c =
    let p = g.M.Matcher.posed c.args.matcher.now in
    let cuts : Cuts = record { at = c.args.cuts.now.at; turns = c.args.turns } in
    let P : PosedProblem → Type 0 = λ q. AllowsLength (alternative_at q.grammar c.args.cell.rule c.args.alt) (c.args.cell.to - c.args.cell.from) in
    none_visited p c.args.cell c.args.alt c.requires.alternative (subst P c.problem-problem.ensures (c.if-not-allows.ensures.0 refl)) cuts
    (subst (λ xs. HasNoneBehind p c.args.cell xs c.args.cell.from 0 0 c.args.turns) (rw c.problem-problem.ensures at c.arguments-arguments.ensures.arguments) c.in-None.ensures)
