use Rattle.std.proofs.Common.{FitsSigned, w64, rules}
use Rattle.std.proofs.lemmas.Int.{to_z-of_z}
use Rattle.term_values.proofs.Lowerings.{fixed_lowered, sum_lowered, difference_lowered, left_product_none, left_product_lowered, right_product_lowered}
use Rattle.term_values.proofs.lowering.+lowered_wide.Goals as goal

pub returns-in_err-lowered_wide-in-Some : goal.returns-in_err-lowered_wide-in-Some
returns-in_err-lowered_wide-in-Some t c =
    let fixed = rw c.deref-in-Product.ensures at c.in-Some.ensures in
    let none = rw c.deref-in-Some.ensures at c.in_err-lowered_wide-in-Some.ensures in
    rw (c.in-Product.is, c.from_residual-in_err-lowered_wide-in-Some.ensures) (left_product_none _ _ _ fixed none)

pub returns-in_ok-lowered_wide-in-Sum-2 : goal.returns-in_ok-lowered_wide-in-Sum-2
returns-in_ok-lowered_wide-in-Sum-2 t c =
    let left = rw c.deref.ensures at c.in_ok-lowered_wide-in-Sum.ensures in
    let right = rw c.deref-in-Sum.ensures at c.in_ok-lowered_wide-in-Sum-2.ensures in
    rw c.in-Sum.is (sum_lowered _ _ _ _ _ left right c.plus.ensures)

pub returns-in_ok-times-in-Difference : goal.returns-in_ok-times-in-Difference
returns-in_ok-times-in-Difference t c =
    let left = rw c.deref-in-Difference.ensures at c.in_ok-lowered_wide-in-Difference.ensures in
    let right = rw c.deref-in-Difference-2.ensures at c.in_ok-lowered_wide-in-Difference-2.ensures in
    rw c.in-Difference.is (difference_lowered _ _ _ _ _ _ left right c.in_ok-times-in-Difference.ensures c.plus-in-Difference.ensures)

pub returns-in_ok-lowered_wide-in-Some : goal.returns-in_ok-lowered_wide-in-Some
returns-in_ok-lowered_wide-in-Some t c =
    let fixed = rw c.deref-in-Product.ensures at c.in-Some.ensures in
    let one = rw c.deref-in-Some.ensures at c.in_ok-lowered_wide-in-Some.ensures in
    let fits : FitsSigned w64 c.in-Some.factor = search rules in
    let found = simp to_z-of_z at c.times-in-Some.ensures in
    rw c.in-Product.is (left_product_lowered _ _ _ _ _ fixed one found)

pub returns-in_ok-fixed-in-None : goal.returns-in_ok-fixed-in-None
returns-in_ok-fixed-in-None t c =
    let one = rw c.deref-in-None.ensures at c.in_ok-lowered_wide-in-None.ensures in
    let fixed = rw c.deref-in-None-2.ensures at c.in_ok-fixed-in-None.ensures in
    let fits : FitsSigned w64 c.in_ok-fixed-in-None.field-0 = search rules in
    let found = simp to_z-of_z at c.times-in-None.ensures in
    rw c.in-Product.is (right_product_lowered _ _ _ _ _ fixed one found)

pub returns-in_ok-fixed-in-Number : goal.returns-in_ok-fixed-in-Number
returns-in_ok-fixed-in-Number t c =
    let fits : FitsSigned w64 c.in_ok-fixed-in-Number.field-0 = search rules in
    fixed_lowered _ _ _ c.in_ok-fixed-in-Number.ensures (simp to_z-of_z at c.number.ensures.constant) c.number.ensures.factors
