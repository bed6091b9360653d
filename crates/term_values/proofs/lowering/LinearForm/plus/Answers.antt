use Rattle.std.proofs.Common.{◌≡◌, pos, length, slice_index_or, FitsSigned, w64, rules}
use Rattle.std.proofs.lemmas.Int.{to_z-of_z}
use Rattle.term_values.proofs.FourNumbers.{four_sums, four_in_range}
use Rattle.term_values.proofs.lowering.LinearForm.plus.Goals as goal

pub returns : goal.returns
returns c =
    let four : length c.args.self.now.factors ≡ 4 = search rules in
    let four' : length c.args.other.now.factors ≡ 4 = search rules in
    let fits-0 : FitsSigned w64 c.in_ok-sum.field-0 = search rules in
    let fits-1 : FitsSigned w64 c.in_ok-sum-2.field-0 = search rules in
    let fits-2 : FitsSigned w64 c.in_ok-sum-3.field-0 = search rules in
    let fits-3 : FitsSigned w64 c.in_ok-sum-4.field-0 = search rules in
    let fits-4 : FitsSigned w64 c.in_ok-sum-5.field-0 = search rules in
    let self : FitsSigned w64 c.args.self.now.constant = search rules in
    let self-0 : FitsSigned w64 (slice_index_or c.args.self.now.factors 0 (pos 0)) = search rules in
    let self-1 : FitsSigned w64 (slice_index_or c.args.self.now.factors 1 (pos 0)) = search rules in
    let self-2 : FitsSigned w64 (slice_index_or c.args.self.now.factors 2 (pos 0)) = search rules in
    let self-3 : FitsSigned w64 (slice_index_or c.args.self.now.factors 3 (pos 0)) = search rules in
    let other : FitsSigned w64 c.args.other.now.constant = search rules in
    let other-0 : FitsSigned w64 (slice_index_or c.args.other.now.factors 0 (pos 0)) = search rules in
    let other-1 : FitsSigned w64 (slice_index_or c.args.other.now.factors 1 (pos 0)) = search rules in
    let other-2 : FitsSigned w64 (slice_index_or c.args.other.now.factors 2 (pos 0)) = search rules in
    let other-3 : FitsSigned w64 (slice_index_or c.args.other.now.factors 3 (pos 0)) = search rules in
    let is-0 = simp to_z-of_z at c.in_ok-sum.ensures in
    let is-1 = simp to_z-of_z at c.in_ok-sum-2.ensures in
    let is-2 = simp to_z-of_z at c.in_ok-sum-3.ensures in
    let is-3 = simp to_z-of_z at c.in_ok-sum-4.ensures in
    let is-4 = simp to_z-of_z at c.in_ok-sum-5.ensures in
    simp to_z-of_z (record {
      constant = is-0.0;
      factors = four_sums _ _ _ _ _ _ four four' is-1.0 is-2.0 is-3.0 is-4.0;
      low = four_in_range _ _ _ _ _ is-0.1 is-1.1 is-2.1 is-3.1 is-4.1;
    })
