use Rattle.std.proofs.Common.{IsTrue, FitsSigned, w64, rules}
use Rattle.std.proofs.lemmas.Int.{to_z-of_z}
use Rattle.score_numbers.specs.Spaced.{least_sum}
use Rattle.score_numbers.proofs.LargestSums.{less_is}
use Rattle.score_numbers.proofs.sums.sum_of.Goals as goal
use lib.Signed.{lt_z}

pub returns-then-sum-least_sum : goal.returns-then-sum-least_sum
returns-then-sum-least_sum g c =
    let fits : FitsSigned w64 c.wide-sum.result = search rules in
    let fits' : FitsSigned w64 c.least_sum.result = search rules in
    let less : IsTrue (lt_z c.wide-sum.result c.least_sum.result) = simp to_z-of_z at c.if-sum-least_sum.true in
    less_is c.wide-sum.result c.least_sum.result (g.N.Number.value c.args.greatest) (least_sum g.N.Number.width) c.wide-sum.ensures c.least_sum.ensures less
