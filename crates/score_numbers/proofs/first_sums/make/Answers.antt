use Rattle.std.proofs.Common.{◌≡◌, ◌+ℤ◌, FitsSigned, w16, w64, to_z, of_z, sym, ap, ◌∙◌, rules}
use Rattle.std.proofs.lemmas.Int.{to_z-of_z}
use Rattle.score_numbers.specs.Limits.{no_limit}
use Rattle.score_numbers.specs.Packing.{short}
use Rattle.score_numbers.proofs.FirstSums.{bits_same, same_bits}
use Rattle.score_numbers.proofs.LargestSums.{short_fits, short_sum_fits}
use Rattle.score_numbers.proofs.first_sums.make.Goals as goal

pub returns : goal.returns
returns c =
    let fits_limit : FitsSigned w16 c.args.limit = search rules in
    let fits_first : FitsSigned w16 c.args.first = short_fits c.args.first c.requires.first in
    let fits_second : FitsSigned w16 c.args.second = short_fits c.args.second c.requires.second in
    let fits_both : FitsSigned w16 (c.args.first +ℤ c.args.second) = short_sum_fits c.args.first c.args.second c.requires.first c.requires.second in
    let fits_sum : FitsSigned w64 c.args.sum = search rules in
    let fits_result : FitsSigned w64 c.from.result = search rules in
    let is : c.from.result ≡ (c.args.first +ℤ c.args.second) = simp to_z-of_z at c.from.ensures in
    let unlimited : c.args.limit ≡ no_limit = sym (to_z-of_z w16 c.args.limit fits_limit) ∙ ap (to_z w16) c.if-limit-ne-NO_LIMIT.false in
    let apart : c.args.first ≡ short.mark → ⊥ = λ e. c.if-first-eq-SHORT_MARK.false (ap (of_z w16) e) in
    let apart' : c.args.second ≡ short.mark → ⊥ = λ e. c.if-second-eq-SHORT_MARK.false (ap (of_z w16) e) in
    (λ same. (unlimited, apart, apart', sym (same_bits c.from.result c.args.sum fits_result fits_sum same) ∙ is), λ it. bits_same c.from.result c.args.sum (is ∙ sym it.3))
