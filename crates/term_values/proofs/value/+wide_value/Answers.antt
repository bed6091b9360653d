use Rattle.std.proofs.Common.{◌+ℤ◌, ◌-ℤ◌, ◌*ℤ◌, FitsSigned, w64, rules}
use Rattle.std.proofs.lemmas.Int.{to_z-of_z}
use Rattle.adp_model.specs.declared.grammar.Term.TheVariants.{Wide}
use Rattle.adp_model.specs.WideTerms.{form_of}
use Rattle.term_values.proofs.Values.{sum_fits, difference_fits, product_fits}
use Rattle.term_values.proofs.value.+wide_value.Goals as goal

pub overflow_add-result : goal.overflow_add-result
overflow_add-result t c =
    let fits : FitsSigned w64 c.wide_value.result = search rules in
    let fits' : FitsSigned w64 c.wide_value-in-Sum.result = search rules in
    let within = c.values_are_within_magnitudes.ensures (Wide (form_of c.deref.result.now)) c.args.values.now in
    let within' = c.values_are_within_magnitudes.ensures (Wide (form_of c.deref-in-Sum.result.now)) c.args.values.now in
    let bounded = rw (c.in-Sum.is, ← c.deref.ensures, ← c.deref-in-Sum.ensures) at c.requires.bounded in
    simp to_z-of_z (sum_fits _ _ _ _ _ _ c.wide_value.ensures c.wide_value-in-Sum.ensures within within' bounded)

pub returns-in-Sum : goal.returns-in-Sum
returns-in-Sum t c =
    let fits : FitsSigned w64 c.wide_value.result = search rules in
    let fits' : FitsSigned w64 c.wide_value-in-Sum.result = search rules in
    let within = c.values_are_within_magnitudes.ensures (Wide (form_of c.deref.result.now)) c.args.values.now in
    let within' = c.values_are_within_magnitudes.ensures (Wide (form_of c.deref-in-Sum.result.now)) c.args.values.now in
    let bounded = rw (c.in-Sum.is, ← c.deref.ensures, ← c.deref-in-Sum.ensures) at c.requires.bounded in
    let whole : FitsSigned w64 (c.wide_value.result +ℤ c.wide_value-in-Sum.result) = sum_fits _ _ _ _ _ _ c.wide_value.ensures c.wide_value-in-Sum.ensures within within' bounded in
    simp to_z-of_z (rw (c.in-Sum.is, ← c.deref.ensures, ← c.deref-in-Sum.ensures) (cc))

pub overflow_sub-result : goal.overflow_sub-result
overflow_sub-result t c =
    let fits : FitsSigned w64 c.wide_value-in-Difference.result = search rules in
    let fits' : FitsSigned w64 c.wide_value-in-Difference-2.result = search rules in
    let within = c.values_are_within_magnitudes.ensures (Wide (form_of c.deref-in-Difference.result.now)) c.args.values.now in
    let within' = c.values_are_within_magnitudes.ensures (Wide (form_of c.deref-in-Difference-2.result.now)) c.args.values.now in
    let bounded = rw (c.in-Difference.is, ← c.deref-in-Difference.ensures, ← c.deref-in-Difference-2.ensures) at c.requires.bounded in
    simp to_z-of_z (difference_fits _ _ _ _ _ _ c.wide_value-in-Difference.ensures c.wide_value-in-Difference-2.ensures within within' bounded)

pub returns-in-Difference : goal.returns-in-Difference
returns-in-Difference t c =
    let fits : FitsSigned w64 c.wide_value-in-Difference.result = search rules in
    let fits' : FitsSigned w64 c.wide_value-in-Difference-2.result = search rules in
    let within = c.values_are_within_magnitudes.ensures (Wide (form_of c.deref-in-Difference.result.now)) c.args.values.now in
    let within' = c.values_are_within_magnitudes.ensures (Wide (form_of c.deref-in-Difference-2.result.now)) c.args.values.now in
    let bounded = rw (c.in-Difference.is, ← c.deref-in-Difference.ensures, ← c.deref-in-Difference-2.ensures) at c.requires.bounded in
    let whole : FitsSigned w64 (c.wide_value-in-Difference.result -ℤ c.wide_value-in-Difference-2.result) = difference_fits _ _ _ _ _ _ c.wide_value-in-Difference.ensures c.wide_value-in-Difference-2.ensures within within' bounded in
    simp to_z-of_z (rw (c.in-Difference.is, ← c.deref-in-Difference.ensures, ← c.deref-in-Difference-2.ensures) (cc))

pub overflow_mul-result : goal.overflow_mul-result
overflow_mul-result t c =
    let fits : FitsSigned w64 c.wide_value-in-Product.result = search rules in
    let fits' : FitsSigned w64 c.wide_value-in-Product-2.result = search rules in
    let within = c.values_are_within_magnitudes.ensures (Wide (form_of c.deref-in-Product.result.now)) c.args.values.now in
    let within' = c.values_are_within_magnitudes.ensures (Wide (form_of c.deref-in-Product-2.result.now)) c.args.values.now in
    let bounded = rw (c.in-Product.is, ← c.deref-in-Product.ensures, ← c.deref-in-Product-2.ensures) at c.requires.bounded in
    simp to_z-of_z (product_fits _ _ _ _ _ _ c.wide_value-in-Product.ensures c.wide_value-in-Product-2.ensures within within' bounded)

pub returns-in-Product : goal.returns-in-Product
returns-in-Product t c =
    let fits : FitsSigned w64 c.wide_value-in-Product.result = search rules in
    let fits' : FitsSigned w64 c.wide_value-in-Product-2.result = search rules in
    let within = c.values_are_within_magnitudes.ensures (Wide (form_of c.deref-in-Product.result.now)) c.args.values.now in
    let within' = c.values_are_within_magnitudes.ensures (Wide (form_of c.deref-in-Product-2.result.now)) c.args.values.now in
    let bounded = rw (c.in-Product.is, ← c.deref-in-Product.ensures, ← c.deref-in-Product-2.ensures) at c.requires.bounded in
    let whole : FitsSigned w64 (c.wide_value-in-Product.result *ℤ c.wide_value-in-Product-2.result) = product_fits _ _ _ _ _ _ c.wide_value-in-Product.ensures c.wide_value-in-Product-2.ensures within within' bounded in
    simp to_z-of_z (rw (c.in-Product.is, ← c.deref-in-Product.ensures, ← c.deref-in-Product-2.ensures) (cc))
