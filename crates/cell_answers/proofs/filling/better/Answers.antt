use Rattle.std.proofs.Common.{◌≤ℤ◌, ◌<ℤ◌, FitsSigned, w64, subst, arith, rules}
use Rattle.std.proofs.lemmas.Int.{ints, to_z-of_z}
use Rattle.score_numbers.specs.Greatest.{IsGreatestOf}
use Rattle.cell_answers.specs.CellBest.{IsBestOfFirst}
use Rattle.cell_answers.specs.Totals.{HasTurnedScore}
use Rattle.cell_answers.proofs.FirstGiving.{best_kept, first_one, kept, taken}
use Rattle.cell_answers.proofs.filling.better.Goals as goal

pub returns-in_default : goal.returns-in_default
returns-in_default c p cell is here =
    best_kept p cell c.args.alt c.args.best is (subst (IsGreatestOf (HasTurnedScore p cell c.args.alt)) c.in_default.is here)

pub returns-then-score-first : goal.returns-then-score-first
returns-then-score-first c p cell is here =
    let first = c.in-Some-best.first in
    let low : c.in-Some.score ≤ℤ first.score = omega (arith, ints, c.if-score-first.true) in
    kept p cell c.args.alt first.score first.alt (subst (IsBestOfFirst p cell c.args.alt) c.in-Some-best.is is) c.in-Some.score
    (subst (IsGreatestOf (HasTurnedScore p cell c.args.alt)) c.in-Some.is here) low

pub returns-else-score-first : goal.returns-else-score-first
returns-else-score-first c p cell is here =
    let first = c.in-Some-best.first in
    let fits : FitsSigned w64 c.in-Some.score = search rules in
    let more : first.score <ℤ c.in-Some.score = omega (arith, ints, c.if-score-first.false) in
    simp to_z-of_z
    (taken p cell c.args.alt first.score first.alt (subst (IsBestOfFirst p cell c.args.alt) c.in-Some-best.is is) c.in-Some.score
    (subst (IsGreatestOf (HasTurnedScore p cell c.args.alt)) c.in-Some.is here) more)

pub returns-in_default-best : goal.returns-in_default-best
returns-in_default-best c p cell is here =
    let fits : FitsSigned w64 c.in-Some.score = search rules in
    simp to_z-of_z
    (first_one p cell c.args.alt c.in-Some.score (subst (IsBestOfFirst p cell c.args.alt) c.in_default-best.is is)
    (subst (IsGreatestOf (HasTurnedScore p cell c.args.alt)) c.in-Some.is here))
