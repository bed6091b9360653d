use Rattle.std.proofs.Common.{◌≡◌, ◌↔◌, ℕ, ◌≤◌, min, nat_le, Option, IfSome, IsTrue, ap, subst, ◌∙◌, arith, leb-true}
use Rattle.std.proofs.lemmas.Bool.{le-leb}
use Rattle.adp_model.specs.Sizes.{least_sum}
use Rattle.yield_sizes.specs.Possible.{greatest_sum_kept, kept_least_sum}
use Rattle.yield_sizes.proofs.PossibleSums.{least_sum_kept}
use Rattle.yield_sizes.proofs.possible.fits_under.Goals as goal

pub returns-in-Some : goal.returns-in-Some
returns-in-Some c =
    let least = c.args.least.now in
    let arguments = c.args.alternative.now.args in
    let sum : c.least_sum.result ≡ min (least_sum least arguments) greatest_sum_kept = c.least_sum.ensures ∙ ap (kept_least_sum least) c.as_slice.ensures ∙ least_sum_kept least arguments in
    let high : c.from.result ≡ c.in-Some.high = c.from.ensures in
    subst (λ (o : Option ℕ). IsTrue (nat_le c.least_sum.result c.from.result) ↔ IfSome o (λ most. least_sum least arguments ≤ most)) c.in-Some.ensures (
      λ e. let l = leb-true c.least_sum.result c.from.result e in omega arith,
      λ l. le-leb c.least_sum.result c.from.result (omega arith),
    )
