use Rattle.std.proofs.Common.{◌≡◌, ◌-◌, ◌^◌, min, sum, sym, ap, ◌∙◌, subst, arith}
use Rattle.adp_model.specs.Demand.{IsDemandedCount}
use Rattle.adp_model.specs.ProblemFields.{IsAdmissible}
use Rattle.evaluators.proofs.finished.Finished.demanded_cells.Goals as goal

pub returns : goal.returns
returns c problem seed finished =
    let wins = c.args.self.now.wins.items in
    let (count, counted, few) = c.demanded_cells_are_listed.ensures.count problem
    (subst IsAdmissible finished.closed c.admissible.ensures) in
    let same = c.demanded_cells_are_unique.ensures.count problem (sum wins) count finished.wins_sum counted in
    let summed = c.sum_of.ensures ∙ ap (λ ns. min (sum ns) (2 ^ 64 - 1)) c.deref.ensures.value in
    let all : c.sum_of.result ≡ sum wins = omega (arith, same, few, summed) in
    subst (IsDemandedCount problem) (sym all) finished.wins_sum
