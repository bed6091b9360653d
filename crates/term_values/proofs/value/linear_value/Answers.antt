use Rattle.std.proofs.Common.{◌≡◌, ◌<◌, length, slice_index_or, pos, ◌*ℤ◌, FitsSigned, w64, to_z, arith, rules, ap, sym, ◌∙◌}
use Rattle.term_values.proofs.Values.{step, sum_more, total_more, nat_abs-sum}
use Rattle.term_values.proofs.value.linear_value.Goals as goal

pub loop-i-preserved : goal.loop-i-preserved
loop-i-preserved c =
    let factors = c.as_slice-factors.result.now in
    let values = c.args.values.now in
    let i = c.loop-i.i in
    let total = to_z w64 c.loop-i.total-bits in
    let in_factors : i < length factors = c.loop-i-test.true in
    let same : length factors ≡ length c.args.term.now.factors = ap length c.as_slice-factors.ensures in
    let in_values : i < length values = omega (arith, same, c.requires.each) in
    let factor = slice_index_or factors i (pos 0) in
    let value = slice_index_or values i (pos 0) in
    let fits_factor : FitsSigned w64 factor = search rules in
    let fits_value : FitsSigned w64 value = search rules in
    let stepped = step total factors values i in_factors in_values fits_factor fits_value c.loop-i.invariant.bounded in
    let more = total_more factors values i in_factors in_values in
    let sum = nat_abs-sum total (factor *ℤ value) in
    rw stepped (record {
      exact = sym (sum_more total factors values i in_factors in_values) ∙ c.loop-i.invariant.exact;
      bounded = omega (arith, more, sum, c.loop-i.invariant.bounded);
    })
