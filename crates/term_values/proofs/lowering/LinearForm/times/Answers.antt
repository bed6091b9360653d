use Rattle.std.proofs.Common.{◌≡◌, pos, length, slice_index_or, FitsSigned, w64, rules, arith}
use Rattle.std.proofs.lemmas.Int.{to_z-of_z}
use Rattle.term_values.proofs.FourNumbers.{four_products, four_in_range, factor_within, product_past}
use Rattle.term_values.proofs.lowering.LinearForm.times.Goals as goal

pub returns-in_err-product-2 : goal.returns-in_err-product-2
returns-in_err-product-2 c =
    let four : length c.args.self.now.factors ≡ 4 = search rules in
    let fits : FitsSigned w64 c.args.factor = c.ranges.factor in
    let low : FitsSigned w64 (slice_index_or c.args.self.now.factors 0 (pos 0)) = search rules in
    rw c.from_residual-in_err-product-2.ensures
    (product_past _ _ _ (simp to_z-of_z at c.in_err-product-2.ensures) (factor_within c.args.self.now 0 four (omega arith)))

pub returns-in_err-product-3 : goal.returns-in_err-product-3
returns-in_err-product-3 c =
    let four : length c.args.self.now.factors ≡ 4 = search rules in
    let fits : FitsSigned w64 c.args.factor = c.ranges.factor in
    let low : FitsSigned w64 (slice_index_or c.args.self.now.factors 1 (pos 0)) = search rules in
    rw c.from_residual-in_err-product-3.ensures
    (product_past _ _ _ (simp to_z-of_z at c.in_err-product-3.ensures) (factor_within c.args.self.now 1 four (omega arith)))

pub returns-in_err-product-4 : goal.returns-in_err-product-4
returns-in_err-product-4 c =
    let four : length c.args.self.now.factors ≡ 4 = search rules in
    let fits : FitsSigned w64 c.args.factor = c.ranges.factor in
    let low : FitsSigned w64 (slice_index_or c.args.self.now.factors 2 (pos 0)) = search rules in
    rw c.from_residual-in_err-product-4.ensures
    (product_past _ _ _ (simp to_z-of_z at c.in_err-product-4.ensures) (factor_within c.args.self.now 2 four (omega arith)))

pub returns-in_err-product-5 : goal.returns-in_err-product-5
returns-in_err-product-5 c =
    let four : length c.args.self.now.factors ≡ 4 = search rules in
    let fits : FitsSigned w64 c.args.factor = c.ranges.factor in
    let low : FitsSigned w64 (slice_index_or c.args.self.now.factors 3 (pos 0)) = search rules in
    rw c.from_residual-in_err-product-5.ensures
    (product_past _ _ _ (simp to_z-of_z at c.in_err-product-5.ensures) (factor_within c.args.self.now 3 four (omega arith)))

pub returns : goal.returns
returns c =
    let four : length c.args.self.now.factors ≡ 4 = search rules in
    let fits : FitsSigned w64 c.args.factor = c.ranges.factor in
    let fits-0 : FitsSigned w64 c.in_ok-product.field-0 = search rules in
    let fits-1 : FitsSigned w64 c.in_ok-product-2.field-0 = search rules in
    let fits-2 : FitsSigned w64 c.in_ok-product-3.field-0 = search rules in
    let fits-3 : FitsSigned w64 c.in_ok-product-4.field-0 = search rules in
    let fits-4 : FitsSigned w64 c.in_ok-product-5.field-0 = search rules in
    let self : FitsSigned w64 c.args.self.now.constant = search rules in
    let self-0 : FitsSigned w64 (slice_index_or c.args.self.now.factors 0 (pos 0)) = search rules in
    let self-1 : FitsSigned w64 (slice_index_or c.args.self.now.factors 1 (pos 0)) = search rules in
    let self-2 : FitsSigned w64 (slice_index_or c.args.self.now.factors 2 (pos 0)) = search rules in
    let self-3 : FitsSigned w64 (slice_index_or c.args.self.now.factors 3 (pos 0)) = search rules in
    let is-0 = simp to_z-of_z at c.in_ok-product.ensures in
    let is-1 = simp to_z-of_z at c.in_ok-product-2.ensures in
    let is-2 = simp to_z-of_z at c.in_ok-product-3.ensures in
    let is-3 = simp to_z-of_z at c.in_ok-product-4.ensures in
    let is-4 = simp to_z-of_z at c.in_ok-product-5.ensures in
    simp to_z-of_z (record {
      constant = is-0.0;
      factors = four_products _ _ _ _ _ _ four is-1.0 is-2.0 is-3.0 is-4.0;
      low = four_in_range _ _ _ _ _ is-0.1 is-1.1 is-2.1 is-3.1 is-4.1;
    })
