use Rattle.std.proofs.Common.{◌≡◌, ℕ, ◌≤◌, Option, None, Some, IfSome, refl, sym, ap, subst, ◌∙◌, arith, leb-true}
use Rattle.std.proofs.lemmas.Bool.{le-leb}
use Rattle.adp_model.specs.Lengths.{low_of}
use Rattle.adp_model.specs.Sizes.{greatest_sum}
use Rattle.yield_sizes.specs.Possible.{greatest_sum_kept, kept, kept_greatest_sum}
use Rattle.yield_sizes.proofs.PossibleSums.{greatest_sum_is_kept, reached_as_kept}
use Rattle.yield_sizes.proofs.possible.reaches.Goals as goal

pub returns-in-None : goal.returns-in-None
returns-in-None c =
    let greatest = c.args.greatest.now in
    let arguments = c.args.alternative.now.args in
    let sum : None ≡ kept (greatest_sum greatest arguments) = c.in-None.ensures ∙ ap (kept_greatest_sum greatest) c.as_slice.ensures ∙ greatest_sum_is_kept greatest arguments in
    (λ _. nothing (greatest_sum greatest arguments) sum, λ _. refl)
  where
    nothing : (sum : Option ℕ) → None ≡ kept sum → IfSome sum (λ total. low_of c.args.alternative.now.size ≤ total)
    nothing None e = tt
    nothing (Some n) e = absurd (cc)

pub returns-in-Some : goal.returns-in-Some
returns-in-Some c =
    let greatest = c.args.greatest.now in
    let arguments = c.args.alternative.now.args in
    let low = low_of c.args.alternative.now.size in
    let sum : Some c.in-Some.sum ≡ kept (greatest_sum greatest arguments) = c.in-Some.ensures ∙ ap (kept_greatest_sum greatest) c.as_slice.ensures ∙ greatest_sum_is_kept greatest arguments in
    let bound : c.from.result ≡ low = c.from.ensures ∙ c.low.ensures in
    let few : low ≤ greatest_sum_kept = omega (arith, c.low.ensures) in
    let as_kept = reached_as_kept low (greatest_sum greatest arguments) few in
    let P : Option ℕ → Type 0 = λ o. IfSome o (λ total. low ≤ total) in (
      λ e. as_kept.0 (subst P sum (let l = leb-true c.from.result c.in-Some.sum e in omega arith)),
      λ h. le-leb c.from.result c.in-Some.sum (let l : low ≤ c.in-Some.sum = subst P (sym sum) (as_kept.1 h) in omega arith),
    )
