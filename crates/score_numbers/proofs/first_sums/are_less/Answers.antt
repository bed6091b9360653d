use Rattle.std.proofs.Common.{◌<ℤ◌, IfSome, IsTrue, FitsSigned, w64, refl, sym, subst, rules}
use Rattle.std.proofs.lemmas.Int.{to_z-of_z}
use Rattle.score_numbers.proofs.LargestSums.{less_is}
use Rattle.score_numbers.proofs.first_sums.are_less.Goals as goal
use lib.Signed.{lt_z}

pub returns-in-Some : goal.returns-in-Some
returns-in-Some c = λ less.
    let fits : FitsSigned w64 c.in-Some.greatest = search rules in
    let fits_sum : FitsSigned w64 c.args.sum = c.ranges.sum in
    let less' : IsTrue (lt_z c.in-Some.greatest c.args.sum) = simp to_z-of_z at less in
    subst (λ greatest. IfSome greatest (λ greatest. greatest <ℤ c.args.sum)) (sym c.in-Some.is) (less_is c.in-Some.greatest c.args.sum _ _ refl refl less')
